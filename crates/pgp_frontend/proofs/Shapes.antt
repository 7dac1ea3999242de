-- What parts of one shape spell is read in one way.
use Rattle.pgp_frontend.proofs.Common.{◌≡◌, ◌≢◌, ℕ, ◌<◌, ◌^◌, List, [], ◌∷◌, ◌++◌, length, Option, Some, None, refl, sym, ap, ◌∙◌, append_assoc, suc, zero, arith, map, All, FitsSigned, slice_index_or, w16, flat_map, take_all, int16, oid, text, nullable, text_cause, count_cause, nullable_cause, first, either_left, either_right, counts_of, int16_begins, int32_begins, uint32_begins, text_begins, nullable_begins, counted_begins, Part, Byte, Int16, Int32, Oid, Text, Int16s, Oids, Values, Nullable, Rest, Key, Pairs, spelling, part_cause, pair, pair_cause, AllBytes, AKey, shape, HasSpelling}
use Rattle.std.specs.Prelude.{take}

-- each of what has no first cause has none
firsts : (vs : List (Option (List ℕ))) → first (map nullable_cause vs) ≡ None → All (λ v. nullable_cause v ≡ None) vs
firsts [] h = λ k d l. absurd (omega (arith, l))
firsts (v ∷ vs) h = λ k d l. elim k as (λ k. k < length (v ∷ vs) → nullable_cause (slice_index_or (v ∷ vs) k d) ≡ None) [
  | zero ↦ λ l. either_left (nullable_cause v) (first (map nullable_cause vs)) h
  | suc j ↦ λ l. firsts vs (either_right (nullable_cause v) (first (map nullable_cause vs)) h) j d (omega (arith, l))
] l

values_none : (vs : List (Option (List ℕ))) → part_cause (Values vs) ≡ None → All (λ v. nullable_cause v ≡ None) vs × (count_cause (length vs) ≡ None)
values_none vs h =
    let n : count_cause (length vs) ≡ None = either_right (first (map nullable_cause (take 65535 vs))) (count_cause (length vs)) h in
    let f = either_left (first (map nullable_cause (take 65535 vs))) (count_cause (length vs)) h in
    let all = take_all 65535 vs (omega (arith, counts_of (length vs) n)) in
    (firsts vs (ap (λ ws. first (map nullable_cause ws)) (sym all) ∙ f), n)

-- a pair doesn't begin with the 0 byte that ends the pairs
module _ (name value rest x : List ℕ) where
  pub pair_no_end : text_cause name ≡ None → name ≢ [] → 0 ∷ rest ≡ text name ++ x → ⊥
  pair_no_end h n e = n (sym (text_begins [] name rest x refl h e).0)

regroup : (p : List ℕ × List ℕ) (ps : List (List ℕ × List ℕ)) (x : List ℕ) → flat_map pair (p ∷ ps) ++ 0 ∷ x ≡ text p.0 ++ (text p.1 ++ (flat_map pair ps ++ 0 ∷ x))
regroup p ps x = append_assoc (pair p) (flat_map pair ps) (0 ∷ x) ∙ append_assoc (text p.0) (text p.1) (flat_map pair ps ++ 0 ∷ x)

same_pair : (p q : List ℕ × List ℕ) → p.0 ≡ q.0 → p.1 ≡ q.1 → p ≡ q
same_pair (a, b) (c, d) e f = rw (e, f) refl

ap2 : {A : Type 0} {a b : A} {xs ys : List A} → a ≡ b → xs ≡ ys → a ∷ xs ≡ b ∷ ys
ap2 {A} {a} {b} {xs} {ys} e f = rw (e, f) refl

pub pairs_begin : (ps qs : List (List ℕ × List ℕ)) (x y : List ℕ) → first (map pair_cause ps) ≡ None → first (map pair_cause qs) ≡ None → All (λ p. p.0 ≢ []) ps → All (λ p. p.0 ≢ []) qs
    → flat_map pair ps ++ 0 ∷ x ≡ flat_map pair qs ++ 0 ∷ y → (ps ≡ qs) × (x ≡ y)
pairs_begin [] [] x y h k n m e = (refl, cc)
pairs_begin [] (q ∷ qs) x y h k n m e =
    let clean = either_left (text_cause q.0) (text_cause q.1) (either_left (pair_cause q) (first (map pair_cause qs)) k) in
    absurd (pair_no_end q.0 q.1 x (text q.1 ++ (flat_map pair qs ++ 0 ∷ y)) clean (m 0 q (omega arith)) (e ∙ regroup q qs y))
pairs_begin (p ∷ ps) [] x y h k n m e =
    let clean = either_left (text_cause p.0) (text_cause p.1) (either_left (pair_cause p) (first (map pair_cause ps)) h) in
    absurd (pair_no_end p.0 p.1 y (text p.1 ++ (flat_map pair ps ++ 0 ∷ x)) clean (n 0 p (omega arith)) (sym e ∙ regroup p ps x))
pairs_begin (p ∷ ps) (q ∷ qs) x y h k n m e =
    let c = either_left (pair_cause p) (first (map pair_cause ps)) h in
    let d = either_left (pair_cause q) (first (map pair_cause qs)) k in
    let names = text_begins p.0 q.0 _ _ (either_left (text_cause p.0) (text_cause p.1) c) (either_left (text_cause q.0) (text_cause q.1) d) (sym (regroup p ps x) ∙ (e ∙ regroup q qs y)) in
    let values = text_begins p.1 q.1 _ _ (either_right (text_cause p.0) (text_cause p.1) c) (either_right (text_cause q.0) (text_cause q.1) d) names.1 in
    let rest = pairs_begin ps qs x y (either_right (pair_cause p) (first (map pair_cause ps)) h) (either_right (pair_cause q) (first (map pair_cause qs)) k) (λ i d l. n (suc i) d (omega (arith, l))) (λ i d l. m (suc i) d (omega (arith, l))) values.1 in
    (ap2 (same_pair p q names.0 values.0) rest.0, rest.1)

pub part_begins : (p q : Part) (x y : List ℕ) → shape p ≡ shape q → shape p ≢ AllBytes → shape p ≢ AKey → HasSpelling p → HasSpelling q → spelling p ++ x ≡ spelling q ++ y → (p ≡ q) × (x ≡ y)
part_begins (Byte m) (Byte n) x y s r t h k e = let a : m ≡ n = cc in (ap Byte a, cc)
part_begins (Int16 m) (Int16 n) x y s r t h k e = let u = int16_begins m n x y h.in_range k.in_range e in (ap Int16 u.0, u.1)
part_begins (Int32 m) (Int32 n) x y s r t h k e = let u = int32_begins m n x y h.in_range k.in_range e in (ap Int32 u.0, u.1)
part_begins (Oid m) (Oid n) x y s r t h k e = let u = uint32_begins m n x y h.in_range k.in_range e in (ap Oid u.0, u.1)
part_begins (Text m) (Text n) x y s r t h k e = let u = text_begins m n x y h.none k.none e in (ap Text u.0, u.1)
part_begins (Int16s m) (Int16s n) x y s r t h k e = let u = counted_begins (FitsSigned w16) int16 int16_begins m n x y (h.in_range, h.none) (k.in_range, k.none) e in (ap Int16s u.0, u.1)
part_begins (Oids m) (Oids n) x y s r t h k e = let u = counted_begins (λ n. n < 2 ^ 32) oid uint32_begins m n x y (h.in_range, h.none) (k.in_range, k.none) e in (ap Oids u.0, u.1)
part_begins (Values m) (Values n) x y s r t h k e = let u = counted_begins (λ v. nullable_cause v ≡ None) nullable nullable_begins m n x y (values_none m h.none) (values_none n k.none) e in (ap Values u.0, u.1)
part_begins (Nullable m) (Nullable n) x y s r t h k e = let u = nullable_begins m n x y h.none k.none e in (ap Nullable u.0, u.1)
part_begins (Rest m) _ x y s r t h k e = absurd (r refl)
part_begins (Key m) _ x y s r t h k e = absurd (t refl)
part_begins (Pairs m) (Pairs n) x y s r t h k e =
    let u = pairs_begin m n x y h.none k.none h.named k.named (sym (append_assoc (flat_map pair m) (0 ∷ []) x) ∙ (e ∙ append_assoc (flat_map pair n) (0 ∷ []) y)) in
    (ap Pairs u.0, u.1)
part_begins _ _ x y s r t h k e = cc
