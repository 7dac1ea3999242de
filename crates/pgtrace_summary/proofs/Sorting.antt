-- Numbers in ascending order have no other one.
use Rattle.pgtrace_summary.proofs.Common.{◌≡◌, ℕ, zero, suc, ◌+◌, ◌<◌, ◌≤◌, List, [], ◌∷◌, length, get_or, refl, sym, ap, arith, ◌∙◌, inl, inr, nat_lt, cases_Bool, ascending, inserted, sum_by, IsNonDecreasing, IsPermutation, IsSorted, nat_cmp, ltb-false, ltb-true, sum_by-cons}
use Rattle.std.proofs.lemmas.List.Sorted.{IsNonDecreasingBy-drop, IsNonDecreasingBy-from_sort, sum_by-IsPermutation}

-- ---- how often a number stands in a list

abbrev one : ℕ → ℕ → ℕ
one zero zero = 1
one zero (suc x) = 0
one (suc n) zero = 0
one (suc n) (suc x) = one n x

one_same : (n : ℕ) → one n n ≡ 1
one_same zero = refl
one_same (suc n) = one_same n

one_less : (n x : ℕ) → n < x → one n x ≡ 0
one_less zero zero lt = absurd (omega (arith, lt))
one_less zero (suc x) lt = refl
one_less (suc n) zero lt = refl
one_less (suc n) (suc x) lt = one_less n x (omega (arith, lt))

abbrev times_in : ℕ → List ℕ → ℕ
times_in n [] = 0
times_in n (x ∷ xs) = one n x + times_in n xs

times_summed : (n : ℕ) (xs : List ℕ) → sum_by (one n) xs ≡ times_in n xs
times_summed n [] = refl
times_summed n (x ∷ xs) = sum_by-cons (one n) x xs ∙ ap (λ k. one n x + k) (times_summed n xs)

times_permuted : (n : ℕ) (xs ys : List ℕ) → IsPermutation xs ys → times_in n ys ≡ times_in n xs
times_permuted n xs ys p = sym (times_summed n ys) ∙ sum_by-IsPermutation (one n) xs ys p ∙ times_summed n xs

times_inserted : (n x : ℕ) (xs : List ℕ) → times_in n (inserted x xs) ≡ one n x + times_in n xs
times_inserted n x [] = refl
times_inserted n x (y ∷ ys) =
    elim (cases_Bool (nat_lt y x)) [
      | inl less ↦ rw less (let h = times_inserted n x ys in omega (arith, h))
      | inr more ↦ rw more refl
    ]

times_ascending : (n : ℕ) (xs : List ℕ) → times_in n (ascending xs) ≡ times_in n xs
times_ascending n [] = refl
times_ascending n (x ∷ xs) = times_inserted n x (ascending xs) ∙ ap (λ k. one n x + k) (times_ascending n xs)

-- ---- lists that rise

-- at least this
abbrev IsLeast : ℕ → List ℕ → Type 0
IsLeast n [] = Unit {0}
IsLeast n (x ∷ xs) = (n ≤ x) × IsLeast n xs

abbrev Rises : List ℕ → Type 0
Rises [] = Unit {0}
Rises (x ∷ xs) = IsLeast x xs × Rises xs

least_more : (m n : ℕ) (xs : List ℕ) → m ≤ n → IsLeast n xs → IsLeast m xs
least_more m n [] le l = tt
least_more m n (x ∷ xs) le l = let h = l.0 in (omega (arith, le, h), least_more m n xs le l.1)

least_inserted : (m n : ℕ) (xs : List ℕ) → m ≤ n → IsLeast m xs → IsLeast m (inserted n xs)
least_inserted m n [] le l = (le, tt)
least_inserted m n (x ∷ xs) le l =
    elim (cases_Bool (nat_lt x n)) [
      | inl less ↦ rw less (l.0, least_inserted m n xs le l.1)
      | inr more ↦ rw more (le, l)
    ]

rises_inserted : (n : ℕ) (xs : List ℕ) → Rises xs → Rises (inserted n xs)
rises_inserted n [] r = (tt, tt)
rises_inserted n (x ∷ xs) r =
    elim (cases_Bool (nat_lt x n)) [
      | inl less ↦ rw less (least_inserted x n xs (let h = ltb-true x n less in omega (arith, h)) r.0, rises_inserted n xs r.1)
      | inr more ↦ rw more ((ltb-false x n more, least_more n x xs (ltb-false x n more) r.0), r)
    ]

rises_ascending : (xs : List ℕ) → Rises (ascending xs)
rises_ascending [] = tt
rises_ascending (x ∷ xs) = rises_inserted x (ascending xs) (rises_ascending xs)

least_from : (n : ℕ) (xs : List ℕ) → ((j : ℕ) → j < length xs → n ≤ get_or xs j 0) → IsLeast n xs
least_from n [] all = tt
least_from n (x ∷ xs) all = (all 0 (omega arith), least_from n xs (λ j lt. all (suc j) (omega (arith, lt))))

rises_from : (xs : List ℕ) → IsNonDecreasing xs → Rises xs
rises_from [] up = tt
rises_from (x ∷ xs) up = (least_from x xs (λ j lt. up 0 (suc j) 0 (omega arith) (omega (arith, lt))), rises_from xs (IsNonDecreasingBy-drop (λ k. k) 1 (x ∷ xs) up))

none_below : (n x : ℕ) (xs : List ℕ) → IsLeast x xs → n < x → times_in n xs ≡ 0
none_below n x [] l lt = refl
none_below n x (y ∷ ys) l lt =
    let here = l.0 in
    let first : one n y ≡ 0 = one_less n y (omega (arith, lt, here)) in
    let rest = none_below n x ys l.1 lt in
    omega (arith, first, rest)

-- ---- two that rise, with the same numbers

head_not_less : (x y : ℕ) (xs ys : List ℕ) → IsLeast y ys → times_in x (x ∷ xs) ≡ times_in x (y ∷ ys) → x < y → ⊥
head_not_less x y xs ys l e lt =
    let here = one_same x in
    let there = one_less x y lt in
    let rest = none_below x y ys l lt in
    absurd (omega (arith, e, here, there, rest))

heads : (x y : ℕ) → (x < y → ⊥) → (y < x → ⊥) → x ≡ y
heads x y a b =
    elim (cases_Bool (nat_lt x y)) [
      | inl less ↦ absurd (a (ltb-true x y less))
      | inr more ↦ elim (cases_Bool (nat_lt y x)) [
        | inl less ↦ absurd (b (ltb-true y x less))
        | inr most ↦ (let h = ltb-false x y more in let k = ltb-false y x most in omega (arith, h, k))
      ]
    ]

one_order : (xs ys : List ℕ) → Rises xs → Rises ys → ((n : ℕ) → times_in n xs ≡ times_in n ys) → xs ≡ ys
one_order [] [] r s same = refl
one_order [] (y ∷ ys) r s same = let h = same y in let here = one_same y in absurd (omega (arith, h, here))
one_order (x ∷ xs) [] r s same = let h = same x in let here = one_same x in absurd (omega (arith, h, here))
one_order (x ∷ xs) (y ∷ ys) r s same =
    let first : x ≡ y = heads x y (head_not_less x y xs ys s.0 (same x)) (head_not_less y x ys xs r.0 (sym (same y))) in
    let rest : xs ≡ ys = one_order xs ys r.1 s.1 (λ n. let h = same n in let k : one n x ≡ one n y = ap (one n) first in omega (arith, h, k)) in
    ap (λ z. z ∷ xs) first ∙ ap (λ l. y ∷ l) rest

pub sorted_is : (times copy all : List ℕ) → copy ≡ times → IsPermutation copy all → IsSorted nat_cmp all → all ≡ ascending times
sorted_is times copy all same p up =
    one_order all (ascending times) (rises_from all (IsNonDecreasingBy-from_sort (λ x. x) all up)) (rises_ascending times)
    (λ n. times_permuted n copy all p ∙ ap (times_in n) same ∙ sym (times_ascending n times))
