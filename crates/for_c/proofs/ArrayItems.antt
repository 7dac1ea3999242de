-- An array whose elements are put where they stand: its head, and its end.
use Rattle.for_c.proofs.Common.{◌≡◌, ℕ, ◌≤◌, false, List, [], ◌∷◌, ◌++◌, length, take, drop, map, Option, None, refl, sym, ap, ◌∙◌, arith, append_assoc, length-append, ◌≢◌, flat_map, append-nil, length-take, take-append-drop, take-append_seam, drop-append_seam, first, length_cause, nullable_cause, nullable, uint32, either_left, either_none, length-uint32, Product, array, array_bytes, dimension_bytes, flag_of, has_null, HasShape, dimension_of, WroteValue, Wrote, PgpDimension, PgpItems}
use Rattle.pgp_types.specs.Array.{elements_of}
use Rattle.for_c.specs.ArrayItems.{ArraySoFar, array_with}

module _ (t : ℕ) (ds : List PgpDimension) (old new : List ℕ) (at : ℕ) (w : WroteValue array (array_with t ds []) old new at) where
  pub head_stands : take at new ≡ array_bytes (array_with t ds [])
  head_stands =
      let z = array_bytes (array_with t ds []) in
      ap (λ n. take n new) w.wrote.length_is ∙ ap (λ l. take (length z) l) w.wrote.stands ∙ take-append_seam z (drop (length z) old)

  pub behind_head : drop at new ≡ drop at old
  behind_head =
      let z = array_bytes (array_with t ds []) in
      ap (λ n. drop n new) w.wrote.length_is ∙ ap (λ l. drop (length z) l) w.wrote.stands ∙ drop-append_seam z (drop (length z) old) ∙ ap (λ n. drop n old) (sym w.wrote.length_is)

  pub begun : (p count : ℕ) → Product 1 (map dimension_of ds) p → count ≡ elements_of (map dimension_of ds) p → (let s : PgpItems = record { at = at; left = count; has_null = false } in ArraySoFar t ds [] new s)
  begun p count are is = record {
    product = p;
    are = are;
    none = w.none;
    items = record {
      fits = (let z = array_bytes (array_with t ds []) in omega (arith, w.wrote.length_is, w.wrote.fits, ap length w.wrote.stands, length-append z (drop (length z) old)));
      stands = head_stands ∙ sym (append-nil (array_bytes (array_with t ds [])));
      count_is = omega (arith, is);
      nulls = refl;
      none = refl;
    };
  }

-- the flag written over that of the array without elements
flagged : (n z f t d v old new : List ℕ) (at : ℕ) → at ≤ length old → length n ≡ 4 → length z ≡ 4 → length f ≡ 4 → take at old ≡ (n ++ z ++ t ++ d ++ []) ++ v → new ≡ take 4 old ++ (f ++ drop 8 old)
    → Wrote (n ++ f ++ t ++ d ++ v) old new at
flagged n z f t d v old new at fits n4 z4 f4 is grown =
    let rest : List ℕ = t ++ d ++ v ++ drop at old in
    let apart : (n ++ z ++ t ++ d ++ []) ++ v ++ drop at old ≡ n ++ z ++ (t ++ d ++ v ++ drop at old) = simp (append_assoc, append-nil) refl in
    let whole : old ≡ n ++ z ++ rest = sym (take-append-drop at old) ∙ ap (λ l. l ++ drop at old) is ∙ apart in
    let first : take 4 old ≡ n = ap (λ k. take k old) (sym n4) ∙ ap (λ l. take (length n) l) (whole ∙ append_assoc n z rest) ∙ take-append_seam n (z ++ rest) in
    let eight : 8 ≡ length (n ++ z) = omega (arith, n4, z4, length-append n z) in
    let last : drop 8 old ≡ rest = ap (λ k. drop k old) eight ∙ ap (λ l. drop (length (n ++ z)) l) whole ∙ drop-append_seam (n ++ z) rest in
    let joined : n ++ (f ++ (t ++ d ++ v ++ drop at old)) ≡ (n ++ f ++ t ++ d ++ v) ++ drop at old = simp (append_assoc) refl in
    let stands : new ≡ (n ++ f ++ t ++ d ++ v) ++ drop at old = grown ∙ (ap (λ l. l ++ (f ++ drop 8 old)) first ∙ (ap (λ l. n ++ (f ++ l)) last ∙ joined)) in
    let count : at ≡ length (n ++ f ++ t ++ d ++ v) =
    omega (arith, fits, ap length is, length-take at old, length-append (n ++ z ++ t ++ d ++ []) v, length-append (n ++ z ++ t ++ d) [], length-append (n ++ z ++ t) d, length-append (n ++ z) t, length-append n z, length-append (n ++ f ++ t ++ d) v, length-append (n ++ f ++ t) d, length-append (n ++ f) t, length-append n f, n4, z4, f4)
    in record {
      length_is = count;
      fits = omega (arith, fits, count);
      stands = stands ∙ ap (λ k. (n ++ f ++ t ++ d ++ v) ++ drop k old) count;
    }

pub array_ended : (t : ℕ) (ds : List PgpDimension) (vs : List (Option (List ℕ))) (old new : List ℕ) (s : PgpItems) (flag : ℕ) → s.left ≡ 0 → flag ≡ flag_of s.has_null → new ≡ take 4 old ++ (uint32 flag ++ drop 8 old)
    → ArraySoFar t ds vs old s → HasShape ds (length vs) × WroteValue array (array_with t ds vs) old new s.at
array_ended t ds vs old new s flag none is grown a =
    let n = length (map dimension_of ds) in
    let all : length vs ≡ elements_of (map dimension_of ds) a.product = omega (arith, a.items.count_is, none) in
    let same : flag ≡ flag_of (has_null vs) = is ∙ ap flag_of a.items.nulls in (
      (a.product, a.are, all),
      record {
        none = either_none (length_cause n) (first (map nullable_cause vs)) (either_left (length_cause n) None a.none) a.items.none;
        wrote = flagged (uint32 n) (uint32 0) (uint32 (flag_of (has_null vs))) (uint32 t) (flat_map dimension_bytes (map dimension_of ds)) (flat_map nullable vs) old new s.at a.items.fits (length-uint32 n) (length-uint32 0) (length-uint32 (flag_of (has_null vs))) a.items.stands
            (grown ∙ ap (λ k. take 4 old ++ (uint32 k ++ drop 8 old)) same);
      },
    )

-- how many elements so many dimensions have
pub size_is : (ds : List PgpDimension) (p n : ℕ) → (length ds ≡ 0 → n ≡ 0) → (length ds ≢ 0 → n ≡ p) → n ≡ elements_of (map dimension_of ds) p
size_is [] p n none some = none refl
size_is (d ∷ ds) p n none some = some (λ e. omega (arith, e))
