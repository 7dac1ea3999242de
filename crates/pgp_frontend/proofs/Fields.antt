-- A front of the fields, and the field after it.
use Rattle.pgp_frontend.proofs.Common.{◌≡◌, ℕ, ◌+◌, ◌-◌, ◌<◌, List, [], ◌∷◌, ◌++◌, length, map, take, drop, Some, None, sym, ap, ◌∙◌, get_or, refl, arith, ◌≤◌, ◌⊎◌, inl, inr, length-append, take_more, map-append, take-append-drop, drop_more, take_all, first_more, first_here, first-append, either_first, more_parts, nothing_more, more_twice, Held, ◌⊕◌, Cause, first, either, Wants, WantsMemory, wants_more, memory_then, OnOk, IfErr, Ok, Err, Error, Part, spelling, part_cause, parts_cause, joined, part_of, parts_of}
use Rattle.std.proofs.lemmas.List.Concat.{flat_map-append}
use Rattle.std.specs.Prelude.{Result}
use Rattle.pgp_frontend.specs.declared.field.Field.{Field}

pub cause_more : (ps : List Part) (p : Part) → parts_cause ps ≡ None → part_cause p ≡ None → parts_cause (ps ++ p ∷ []) ≡ None
cause_more ps p h k = ap first (map-append part_cause ps (p ∷ [])) ∙ first_more (map part_cause ps) (part_cause p) h k

pub cause_here : (ps : List Part) (p : Part) (qs : List Part) (e : Error) → parts_cause ps ≡ None → part_cause p ≡ Some e → parts_cause (ps ++ p ∷ qs) ≡ Some e
cause_here ps p qs e h k = ap first (map-append part_cause ps (p ∷ qs)) ∙ first_here (map part_cause ps) (part_cause p) (map part_cause qs) e h k

none_of_last : (c d : Cause) → either c (either d None) ≡ None → d ≡ None
none_of_last None None h = refl
none_of_last None (Some e) h = absurd cc
none_of_last (Some e) d h = absurd cc

-- a cause of the first parts is one of all
pub cause_front : (ps qs : List Part) (e : Error) → parts_cause ps ≡ Some e → parts_cause (ps ++ qs) ≡ Some e
cause_front ps qs e h = ap first (map-append part_cause ps qs) ∙ (first-append (map part_cause ps) (map part_cause qs) ∙ either_first (parts_cause ps) (parts_cause qs) e h)

-- where none of them has a cause the last has none
pub last_none : (ps : List Part) (p : Part) → parts_cause (ps ++ p ∷ []) ≡ None → part_cause p ≡ None
last_none ps p h = none_of_last (parts_cause ps) (part_cause p) (sym (ap first (map-append part_cause ps (p ∷ [])) ∙ first-append (map part_cause ps) (part_cause p ∷ [])) ∙ h)

-- the parts of one field more
fields_more : (fields : List Field) (i : ℕ) (d : Field) → i < length fields → parts_of (take (i + 1) fields) ≡ parts_of (take i fields) ++ part_of (get_or fields i d) ∷ []
fields_more fields i d h = ap parts_of (take_more fields i d h) ∙ map-append part_of (take i fields) (get_or fields i d ∷ [])

pub fields_none : (fields : List Field) (i : ℕ) (d : Field) → i < length fields → parts_cause (parts_of (take i fields)) ≡ None → part_cause (part_of (get_or fields i d)) ≡ None → parts_cause (parts_of (take (i + 1) fields)) ≡ None
fields_none fields i d h e f = ap parts_cause (fields_more fields i d h) ∙ cause_more (parts_of (take i fields)) (part_of (get_or fields i d)) e f

pub fields_joined : {K : Type 0} (fields : List Field) (i : ℕ) (d : Field) (old b c : Held K) → i < length fields → b ≡ old ⊕ joined (parts_of (take i fields)) → c ≡ b ⊕ spelling (part_of (get_or fields i d)) → c ≡ old ⊕ joined (parts_of (take (i + 1) fields))
fields_joined fields i d old b c h e f =
    more_parts spelling old b c (parts_of (take i fields)) (part_of (get_or fields i d)) e f ∙ ap (λ ps. old ⊕ joined ps) (sym (fields_more fields i d h))

pub fields_refused : (fields : List Field) (i : ℕ) (d : Field) (e : Error) → i < length fields → parts_cause (parts_of (take i fields)) ≡ None → part_cause (part_of (get_or fields i d)) ≡ Some e → parts_cause (parts_of fields) ≡ Some e
fields_refused fields i d e h f k =
    let split : fields ≡ take i fields ++ get_or fields i d ∷ drop (i + 1) fields = sym (take-append-drop i fields) ∙ ap (λ rest. take i fields ++ rest) (drop_more fields i d h) in
    ap (λ all. parts_cause (parts_of all)) split
    ∙ (ap parts_cause (map-append part_of (take i fields) (get_or fields i d ∷ drop (i + 1) fields))
    ∙ cause_here (parts_of (take i fields)) (part_of (get_or fields i d)) (parts_of (drop (i + 1) fields)) e f k)

-- no fields
pub fields_empty : {K : Type 0} (fields : List Field) (h : Held K) → length fields < 1 → (parts_cause (parts_of fields) ≡ None) × (h ≡ h ⊕ joined (parts_of fields))
fields_empty [] h lt = (refl, sym (nothing_more h))
fields_empty (f ∷ fs) h lt = absurd (omega arith)

-- the first field, and those after it, as a pattern has them
pub fields_behind : {K : Type 0} (result : Result (Unit {0}) Error) (fields : List Field) (d : Field) (old b c : Held K) → 0 < length fields
    → (part_cause (part_of (get_or fields 0 d)) ≡ None) × (b ≡ old ⊕ spelling (part_of (get_or fields 0 d)))
    → OnOk result ((parts_cause (parts_of (take (length fields - 1) (drop 1 fields))) ≡ None) × (c ≡ b ⊕ joined (parts_of (take (length fields - 1) (drop 1 fields)))))
    → OnOk result ((parts_cause (parts_of fields) ≡ None) × (c ≡ old ⊕ joined (parts_of fields)))
fields_behind result [] d old b c lt is behind = absurd (omega arith)
fields_behind (Err e) (f ∷ fs) d old b c lt is behind = behind
fields_behind (Ok u) (f ∷ fs) d old b c lt is behind =
    let all : take (length (f ∷ fs) - 1) fs ≡ fs = take_all (length (f ∷ fs) - 1) fs (omega arith) in
    let rest = rw all at behind in (
      ap (λ cause. either cause (parts_cause (parts_of fs))) is.0 ∙ rest.0,
      rest.1 ∙ (ap (λ held. held ⊕ joined (parts_of fs)) is.1 ∙ more_twice old (spelling (part_of f)) (joined (parts_of fs))),
    )

-- what a front of the fields and the next one take
pub fields_need : (fields : List Field) (i : ℕ) (d : Field) → i < length fields → length (joined (parts_of (take i fields))) + length (spelling (part_of (get_or fields i d))) ≤ length (joined (parts_of fields))
fields_need fields i d h =
    let split : fields ≡ take i fields ++ get_or fields i d ∷ drop (i + 1) fields = sym (take-append-drop i fields) ∙ ap (λ rest. take i fields ++ rest) (drop_more fields i d h) in
    let e : joined (parts_of fields) ≡ joined (parts_of (take i fields)) ++ (spelling (part_of (get_or fields i d)) ++ joined (parts_of (drop (i + 1) fields))) =
    ap (λ all. joined (parts_of all)) split
    ∙ (ap joined (map-append part_of (take i fields) (get_or fields i d ∷ drop (i + 1) fields))
    ∙ flat_map-append spelling (parts_of (take i fields)) (part_of (get_or fields i d) ∷ parts_of (drop (i + 1) fields))) in
    omega (arith, ap length e, length-append (joined (parts_of (take i fields))) (spelling (part_of (get_or fields i d)) ++ joined (parts_of (drop (i + 1) fields))), length-append (spelling (part_of (get_or fields i d))) (joined (parts_of (drop (i + 1) fields))))

module _ {K : Type 0} {lacks : Held K → ℕ → Type 0} where
  pub fields_want : (fields : List Field) (i : ℕ) (d : Field) (old b : Held K) (e : Error) → i < length fields → b ≡ old ⊕ joined (parts_of (take i fields)) → WantsMemory (Wants lacks b (length (spelling (part_of (get_or fields i d))))) e → WantsMemory (Wants lacks old (length (joined (parts_of fields)))) e
  fields_want fields i d old b e h s w = memory_then old b (joined (parts_of (take i fields))) _ _ e s (fields_need fields i d h) w

  -- the first field was rejected
  pub first_refused : (fields : List Field) (d : Field) (old : Held K) (e : Error) → 0 < length fields → WantsMemory (Wants lacks old (length (spelling (part_of (get_or fields 0 d))))) e ⊎ (part_cause (part_of (get_or fields 0 d)) ≡ Some e)
      → WantsMemory (Wants lacks old (length (joined (parts_of fields)))) e ⊎ (parts_cause (parts_of fields) ≡ Some e)
  first_refused [] d old e lt r = absurd (omega arith)
  first_refused (f ∷ fs) d old e lt (inl w) = inl (w.0, wants_more old _ _ (omega (arith, length-append (spelling (part_of f)) (joined (parts_of fs)))) w.1)
  first_refused (f ∷ fs) d old e lt (inr k) = inr (cause_here [] (part_of f) (parts_of fs) e refl k)

-- one after it
pub later_refused : {K : Type 0} (lacks : Held K → ℕ → Type 0) (result : Result (Unit {0}) Error) (fields : List Field) (d : Field) (old b : Held K) → 0 < length fields
    → (part_cause (part_of (get_or fields 0 d)) ≡ None) × (b ≡ old ⊕ spelling (part_of (get_or fields 0 d)))
    → IfErr result (λ e. WantsMemory (Wants lacks b (length (joined (parts_of (take (length fields - 1) (drop 1 fields)))))) e ⊎ (parts_cause (parts_of (take (length fields - 1) (drop 1 fields))) ≡ Some e))
    → IfErr result (λ e. WantsMemory (Wants lacks old (length (joined (parts_of fields)))) e ⊎ (parts_cause (parts_of fields) ≡ Some e))
later_refused lacks result [] d old b lt is behind = absurd (omega arith)
later_refused lacks (Ok u) (f ∷ fs) d old b lt is behind = tt
later_refused lacks (Err e) (f ∷ fs) d old b lt is behind =
    let all : take (length (f ∷ fs) - 1) fs ≡ fs = take_all (length (f ∷ fs) - 1) fs (omega arith) in
    let rest = rw all at behind in
    elim rest [
      | inl w ↦ inl (memory_then old b (spelling (part_of f)) _ _ e is.1 (omega (arith, length-append (spelling (part_of f)) (joined (parts_of fs)))) w)
      | inr k ↦ inr (ap (λ cause. either cause (parts_cause (parts_of fs))) is.0 ∙ k)
    ]
