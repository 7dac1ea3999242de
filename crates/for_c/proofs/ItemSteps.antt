-- An item that is put where the list goes on.
use Rattle.for_c.proofs.Common.{◌≡◌, ℕ, ◌+◌, ◌≤◌, Bool, true, List, [], ◌∷◌, ◌++◌, length, take, drop, map, Option, Some, None, refl, sym, ap, ◌∙◌, arith, append_assoc, length-append, flat_map, append-nil, map-append, length-drop, length-take, flat_map-append, take-append_seam, take-append-add, drop-append_seam, first, nullable_cause, nullable, uint32, first_more, length_fits, length-uint32, null_spelled, has_null, PgpItems}
use Rattle.for_c.specs.InPlace.{Adds, HasItems, Places, value_at}

-- whether a value is a null, after whether one before it was
abbrev or_null : Option (List ℕ) → Bool → Bool
or_null None b = true
or_null (Some bytes) b = b

null_last : (vs : List (Option (List ℕ))) (v : Option (List ℕ)) → has_null (vs ++ v ∷ []) ≡ or_null v (has_null vs)
null_last [] None = refl
null_last [] (Some x) = refl
null_last (None ∷ vs) None = refl
null_last (None ∷ vs) (Some x) = refl
null_last (Some y ∷ vs) None = null_last vs None
null_last (Some y ∷ vs) (Some x) = null_last vs (Some x)

module _ (v : Option (List ℕ)) (word : List ℕ) (len : ℕ) (old new : List ℕ) (before after last : PgpItems) (a : Adds word len old new before after) (four : length word ≡ 4) (spelled : word ++ value_at len old before ≡ nullable v) (cause : nullable_cause v ≡ None) (at : last.at ≡ after.at) (left : last.left ≡ after.left) (nulls : last.has_null ≡ or_null v before.has_null) where
  abbrev held : List ℕ
  held = take before.at old

  abbrev more : List ℕ
  more = drop (before.at + 4) old

  held_size : length held ≡ before.at
  held_size = omega (arith, a.at, a.fits, length-take before.at old)

  more_size : length more + (before.at + 4) ≡ length old
  more_size = omega (arith, a.at, a.fits, length-drop (before.at + 4) old)

  grown : new ≡ held ++ (word ++ more)
  grown = a.stands

  front : take before.at new ≡ held
  front = ap (λ i. take i new) (sym held_size) ∙ ap (λ l. take (length held) l) grown ∙ take-append_seam held (word ++ more)

  behind : drop (before.at + 4) new ≡ more
  behind =
      let count : before.at + 4 ≡ length (held ++ word) = omega (arith, held_size, four, length-append held word) in
      ap (λ i. drop i new) count ∙ ap (λ l. drop (length (held ++ word)) l) (grown ∙ sym (append_assoc held word more)) ∙ drop-append_seam (held ++ word) more

  size : length new ≡ length old
  size = omega (arith, ap length grown, length-append held (word ++ more), length-append word more, held_size, more_size, four)

  item : take (4 + len) (word ++ more) ≡ nullable v
  item = ap (λ k. take (k + len) (word ++ more)) (sym four) ∙ take-append-add word more len ∙ spelled

  whole : take after.at new ≡ held ++ nullable v
  whole =
      let count : after.at ≡ length held + (4 + len) = omega (arith, a.at, held_size) in
      ap (λ i. take i new) count ∙ ap (λ l. take (length held + (4 + len)) l) grown ∙ take-append-add held (word ++ more) (4 + len) ∙ ap (λ l. held ++ l) item

  -- the value's length
  taken : length (nullable v) ≡ 4 + len
  taken = omega (arith, ap length spelled, length-append word (value_at len old before), four, length-take len more, more_size, a.at, a.fits)

  module _ (head : List ℕ) (vs : List (Option (List ℕ))) (count : ℕ) (h : HasItems head vs count old before) where
    joined : flat_map nullable vs ++ nullable v ≡ flat_map nullable (vs ++ v ∷ [])
    joined = ap (λ l. flat_map nullable vs ++ l) (sym (append-nil (nullable v))) ∙ sym (flat_map-append nullable vs (v ∷ []))

    next : HasItems head (vs ++ v ∷ []) count new last
    next = record {
      fits = omega (arith, at, size, a.fits);
      stands = ap (λ i. take i new) at ∙ whole ∙ ap (λ l. l ++ nullable v) h.stands ∙ append_assoc head (flat_map nullable vs) (nullable v) ∙ ap (λ l. head ++ l) joined;
      count_is = omega (arith, h.count_is, a.left, left, length-append vs (v ∷ []));
      nulls = nulls ∙ ap (λ (b : Bool). or_null v b) h.nulls ∙ sym (null_last vs v);
      none = ap first (map-append nullable_cause vs (v ∷ [])) ∙ first_more (map nullable_cause vs) (nullable_cause v) h.none cause;
    }

  places : Places v old new before last
  places = record {
    within = omega (arith, a.at, a.fits);
    front = front;
    behind = behind;
    size = size;
    at = at ∙ a.at ∙ ap (λ n. before.at + n) (sym taken);
    next = next;
  }

pub value_placed : (len : ℕ) (old new : List ℕ) (before after : PgpItems) → len ≤ 2147483647 → Adds (uint32 len) len old new before after → Places (Some (value_at len old before)) old new before after
value_placed len old new before after few a =
    let value = value_at len old before in
    let size : length value ≡ len = omega (arith, a.at, a.fits, length-take len (drop (before.at + 4) old), length-drop (before.at + 4) old) in
    places (Some value) (uint32 len) len old new before after after a (length-uint32 len) (ap (λ n. uint32 n ++ value) (sym size)) (length_fits (length value) (omega (arith, size, few))) refl refl a.same

pub null_placed : (old new : List ℕ) (before after : PgpItems) → Adds (uint32 4294967295) 0 old new before after → (let last : PgpItems = record after { has_null = true } in Places None old new before last)
null_placed old new before after a =
    let last : PgpItems = record after { has_null = true } in
    places None (uint32 4294967295) 0 old new before after last a (length-uint32 4294967295) (append-nil (uint32 4294967295) ∙ null_spelled) refl refl refl refl
