-- An array whose elements a format writes, alone and as the value of a message.
use Rattle.pgp_uses.proofs.Common.{◌≡◌, ℕ, ℤ, ◌+◌, ◌*◌, ◌≤◌, List, [], ◌∷◌, ◌++◌, map, length, length-append, Option, Some, None, option_map, Result, Ok, Err, Bor, MutBor, refl, sym, ap, ◌∙◌, inl, inr, arith, Error, BindError, Conversion, Serialization, IsNull, Yes, No, int32, uint32, nullable, flat_map, option_to_list, map-append, Wants, WantsMemory, length_cause, Held, ◌⊕◌, value_of, KeepsValue, Puts, Gives, Runs, SoFar, flat_more, nullable_least, sized_wants, wants_more, int32_number, ArrayDimension, Array, array_bytes, Plain, int4, BindsOne, array_length, head_wants, element_wants, BindsInt4s, PutsInt4s, int4_array, error_of, BindsValue, Serializes}
use Rattle.std.proofs.lemmas.List.Concat.{flat_map-append}
use Rattle.pgp_types.specs.ArrayWriting.{before_elements, ArrayWritten, ArrayRefused}
use Rattle.postgres_protocol.specs.ArraySteps.{array_of}
use Rattle.pgp_frontend.proofs.Needs.{null_length}
use Rattle.pgp_uses.proofs.Bound.{written, keeps_value, binds_value}

same_array : (xs ds : List ArrayDimension) (m n : ℕ) (vs ws : List (Option (List ℕ))) → xs ≡ ds → m ≡ n → vs ≡ ws
    → (let a : Array = record { dimensions = xs; element_type = m; elements = vs } in let b : Array = record { dimensions = ds; element_type = n; elements = ws } in a ≡ b)
same_array xs ds m n vs ws e f h = rw (e, f, h) refl

-- no int4 has a cause, nor is one too long
no_cause : {K : Type 0} (lacks : Held K → ℕ → Type 0) (v : Option ℤ) (old new : Held K) (e : Error) → Serializes int4 v lacks old new (Err e) → (z : ℤ) × (v ≡ Some z) × WantsMemory (Wants lacks old (length (int4.written z))) e
no_cause lacks None old new e w = absurd w
no_cause lacks (Some z) old new e w = (z, refl, elim w.0 [ inl memory ↦ memory | inr some ↦ absurd (let none : None ≡ Some e = some in cc) ])

four : (v : Option ℤ) (bytes : List ℕ) (e : Error) → Some bytes ≡ option_map int4.written v → length_cause (length bytes) ≡ Some e → ⊥
four None bytes e is long = cc
four (Some z) bytes e is long =
    let same : bytes ≡ int32 z = cc in
    let size : length bytes ≡ 4 = ap length same ∙ int32_number.len z in
    let none : None ≡ Some e = ap length_cause (sym size) ∙ long in
    cc

module _ {F B K : Type 0} (held : B → Held K) (step : F → Bor (Option ℤ) → MutBor B → Result IsNull Error → MutBor B → F → Type 0) (lacks : Held K → ℕ → Type 0)
    (does : (f f' : F) (x : Bor (Option ℤ)) (b b' : MutBor B) (r : Result IsNull Error) → step f x b r b' f' → Serializes int4 x.now lacks (held b.now) (held b'.now) r) where
  put_is : (here : Held K) (f : F) (x : Bor (Option ℤ)) (null : IsNull) (bytes : List ℕ) (u : F) → Puts held step here f x (Ok null) bytes u → value_of null bytes ≡ option_map int4.written x.now
  put_is here f x null bytes u m =
      (written int4 lacks x.now null bytes here (held m.before.now) (held m.after.now) m.stood m.appended (does f u x m.before m.after (Ok null) m.called)).1

  runs_are : (here : Held K) (f : F) (xs : List (Bor (Option ℤ))) (vs : List (Option (List ℕ))) (t : F) → Runs (Gives held step) nullable here f xs vs t → vs ≡ map (option_map int4.written) (map (λ x. x.now) xs)
  runs_are here f [] [] t r = refl
  runs_are here f [] (v ∷ vs) t r = absurd r
  runs_are here f (x ∷ xs) [] t r = absurd r
  runs_are here f (x ∷ xs) (v ∷ vs) t r =
      let m = r.1 in
      rw (m.value ∙ put_is (here ⊕ uint32 0) f x m.null m.bytes r.0 m.put, runs_are (here ⊕ nullable v) r.0 xs vs t r.2) refl

  long_value : (here : Held K) (f : F) (x : Bor (Option ℤ)) (bytes : List ℕ) (u : F) (e : Error) → Puts held step here f x (Ok No) bytes u → length_cause (length bytes) ≡ Some e → ⊥
  long_value here f x bytes u e m long =
      let is : Some bytes ≡ option_map int4.written x.now = put_is here f x No bytes u m in
      four x.now bytes e is long

  module _ (d : ArrayDimension) (type : ℕ) (values : List (Option ℤ)) (dimensions : List ArrayDimension → Option ArrayDimension → Type 0) (elements : List (Bor (Option ℤ)) → Option (Bor (Option ℤ)) → Type 0)
      (all_dimensions : (xs : List ArrayDimension) → dimensions xs None → xs ≡ d ∷ []) (some_dimensions : (xs : List ArrayDimension) (x : ArrayDimension) → dimensions xs (Some x) → xs ≡ [])
      (all_elements : (xs : List (Bor (Option ℤ))) → elements xs None → map (λ x. x.now) xs ≡ values) (some_elements : (xs : List (Bor (Option ℤ))) (x : Bor (Option ℤ)) → elements xs (Some x) → (more : List (Option ℤ)) × (values ≡ map (λ x. x.now) xs ++ x.now ∷ more))
      (f last : F) (old : Held K) where
    pub array_ok : (new : Held K) → ArrayWritten held step dimensions type elements f last old new
        → new ≡ old ⊕ array_bytes (record { dimensions = d ∷ []; element_type = type; elements = map (option_map int4.written) values })
    array_ok new w =
        let made = w.made in
        let are : w.array.elements ≡ map (option_map int4.written) values = runs_are _ f made.xs w.array.elements last made.runs ∙ ap (λ xs. map (option_map int4.written) xs) (all_elements made.xs made.received) in
        w.appended ∙ ap (λ (a : Array). old ⊕ array_bytes a) (same_array w.array.dimensions (d ∷ []) w.array.element_type type w.array.elements (map (option_map int4.written) values) (all_dimensions w.array.dimensions w.received) w.type are)

    -- the whole array's bytes, and a growth that they need
    abbrev whole : List ℕ
    whole = array_bytes (record { dimensions = d ∷ []; element_type = type; elements = map (option_map int4.written) values })

    -- what a front of the elements needs, the array does
    front_wants : (xs : List (Option ℤ)) (x : Option ℤ) (more : List (Option ℤ)) (vs : List (Option (List ℕ))) (v : Option (List ℕ)) → values ≡ xs ++ x ∷ more → vs ≡ map (option_map int4.written) xs → length (nullable v) ≤ length (nullable (option_map int4.written x))
        → Wants lacks old (length (array_bytes (array_of (d ∷ []) type (vs ++ v ∷ [])))) → Wants lacks old (length whole)
    front_wants xs x more vs v are is least w =
        let front = array_length (d ∷ []) type (vs ++ v ∷ []) in
        let all = array_length (d ∷ []) type (map (option_map int4.written) values) in
        let some = flat_more nullable vs v in
        let cut = ap (λ l. length (flat_map nullable (map (option_map int4.written) l))) are
        ∙ (ap (λ l. length (flat_map nullable l)) (map-append (option_map int4.written) xs (x ∷ more))
        ∙ (ap length (flat_map-append nullable (map (option_map int4.written) xs) (option_map int4.written x ∷ map (option_map int4.written) more))
        ∙ length-append (flat_map nullable (map (option_map int4.written) xs)) (nullable (option_map int4.written x) ++ flat_map nullable (map (option_map int4.written) more)))) in
        let first = ap (λ l. length (flat_map nullable l)) is in
        wants_more old _ _ (omega (arith, front, all, some, cut, first, least, length-append (nullable (option_map int4.written x)) (flat_map nullable (map (option_map int4.written) more)))) w

    few_asked : (before : List ArrayDimension) (next : Option ArrayDimension) (ds : List ArrayDimension) → dimensions before next → ds ≡ before ++ option_to_list next → length ds ≤ 1
    few_asked before None ds received are = let n = ap (λ l. length l) are in let m = ap (λ l. length l) (all_dimensions before received) in omega (arith, n, m, length-append before [])
    few_asked before (Some x) ds received are = let n = ap (λ l. length l) are in let m = ap (λ l. length l) (some_dimensions before x received) in omega (arith, n, m, length-append before (x ∷ []))

    few_of : (ds : List ArrayDimension) → SoFar dimensions ds → length ds ≤ 1
    few_of ds (inl none) = let n = ap (λ l. length l) none in omega (arith, n)
    few_of ds (inr asked) = few_asked asked.before asked.next ds asked.received asked.are

    head_needs : (ds : List ArrayDimension) → SoFar dimensions ds → Wants lacks old (12 + 8 * length ds) → Wants lacks old (length whole)
    head_needs ds so_far w = head_wants (d ∷ []) type old (length ds) (map (option_map int4.written) values) (few_of ds so_far) w

    pub array_refused : (e : BindError Error) → ArrayRefused held step dimensions type elements f last old lacks e → WantsMemory (Wants lacks old (length whole)) (error_of e)
    array_refused (Conversion e) (inl head) = absurd head.0
    array_refused (Conversion e) (inr at) =
        let s = at.stops in
        let m = s.refused.1 in
        let k = some_elements s.xs s.x s.received in
        let no = no_cause lacks s.x.now (held m.before.now) (held m.after.now) e (does s.at last s.x m.before m.after (Err e) m.called) in
        let bytes = int4.written no.0 in
        let least : length (nullable (Some bytes)) ≤ length (nullable (option_map int4.written s.x.now)) = let n = ap (λ v. length (nullable (option_map int4.written v))) no.1 in omega (arith, n) in
        let here = ap (λ ds. before_elements old ds type ⊕ flat_map nullable s.made) (all_dimensions at.all at.received) in
        let wants = element_wants (d ∷ []) type old _ s.made (Some bytes) (length (nullable (Some bytes))) here (omega arith) (sized_wants bytes 0 _ (held m.before.now) m.stood no.2.1) in
        (no.2.0, front_wants (map (λ x. x.now) s.xs) s.x.now k.0 s.made (Some bytes) k.1 (runs_are _ f s.xs s.made s.at s.runs) least wants)
    array_refused (Serialization e) (inl head) = elim head.0 [
      | inl memory ↦ let so_far = memory.1 in (memory.0, head_needs so_far.0 so_far.1 so_far.2)
      | inr past ↦ let p = past.0 in absurd (omega (arith, p.full, ap length (some_dimensions p.before p.last p.received)))
    ]
    array_refused (Serialization e) (inr at) =
        let s = at.stops in
        let k = some_elements s.xs s.x s.received in
        let here = ap (λ ds. before_elements old ds type ⊕ flat_map nullable s.made) (all_dimensions at.all at.received) in
        elim s.refused [
          | inl memory ↦
              let wants = element_wants (d ∷ []) type old _ s.made None 4 here (nullable_least None) memory.0.1 in
              let least : length (nullable None) ≤ length (nullable (option_map int4.written s.x.now)) = let n = nullable_least (option_map int4.written s.x.now) in omega (arith, n, null_length) in
              (memory.0.0, front_wants (map (λ x. x.now) s.xs) s.x.now k.0 s.made None k.1 (runs_are _ f s.xs s.made s.at s.runs) least wants)
          | inr long ↦ absurd (long_value _ s.at s.x long.0 last e long.1 long.2)
        ]

-- ---- the value of a message

-- what is written of such a list, and why it isn't
abbrev int4s : Plain (List (Option ℤ))
int4s = record {
  IsValue = λ values. Unit {0};
  written = λ values. array_bytes (int4_array values);
  cause = λ values. length_cause (length values);
  seen = λ values. values;
  Reads = λ bytes result. Unit {0};
}

module _ {K : Type 0} (values : List (Option ℤ)) (lacks : Held K → ℕ → Type 0) (old new : Held K) where
  as_value : (r : Result IsNull Error) → PutsInt4s values lacks old new r → Serializes int4s (Some values) lacks old new r
  as_value (Ok Yes) w = let e : Yes ≡ No = w.0 in absurd cc
  as_value (Ok No) w = (w.1, w.2)
  as_value (Err e) w = w

  pub keeps_int4s : (r : Result IsNull Error) → PutsInt4s values lacks old new r → KeepsValue r old new
  keeps_int4s r w = keeps_value int4s lacks (Some values) old new r (as_value r w)

  as_message : (r : Result (Unit {0}) (BindError Error)) → BindsValue int4s (Some values) lacks old new r → BindsInt4s values lacks old new r
  as_message (Ok done) w = (w.1, w.2)
  as_message (Err (Conversion e)) w = w
  as_message (Err (Serialization e)) w = (elim w.0 [ inl memory ↦ inl memory | inr long ↦ inr long.1 ], w.1)

pub binds_int4s : {F B K : Type 0} (held : B → Held K) (step : F → ℕ → MutBor B → Result IsNull Error → MutBor B → F → Type 0) (lacks : Held K → ℕ → Type 0) (f : F) (old new : Held K) (r : Result (Unit {0}) (BindError Error))
    → BindsOne held step f old lacks new r → (values : List (Option ℤ))
    → ((u : F) (x : ℕ) (b b' : MutBor B) (r : Result IsNull Error) → step f x b r b' u → PutsInt4s values lacks (held b.now) (held b'.now) r) → BindsInt4s values lacks old new r
binds_int4s held step lacks f old new r one values acts =
    as_message values lacks old new r (binds_value held step lacks f old new r one int4s (Some values) (λ u x b b' r s. as_value values lacks (held b.now) (held b'.now) r (acts u x b b' r s)))
