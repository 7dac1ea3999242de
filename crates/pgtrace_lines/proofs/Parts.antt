-- Lists, one element after another.
use Rattle.pgtrace_lines.proofs.Common.{◌≡◌, ℕ, ◌+◌, ◌-◌, ◌≤◌, List, ◌++◌, length, take, sym, ap, ◌∙◌, arith, length-append, min, inl, inr, min-eq_left, min-eq_right, cases_order, take-append_seam}

-- what stands before the rest
pub front_taken : (front rest all : List ℕ) → all ≡ front ++ rest → take (length all - length rest) all ≡ front
front_taken front rest all e =
    let n : length all - length rest ≡ length front = omega (arith, ap length e, length-append front rest) in
    ap (λ k. take k all) n ∙ ap (take (length front)) e ∙ take-append_seam front rest

-- a sum that stays at the greatest number
at_most : (a b m : ℕ) → m ≤ a → min (min a m + b) m ≡ min (a + b) m
at_most a b m le =
    let here : min a m ≡ m = min-eq_right le in
    let one : m ≤ m + b = omega arith in
    let two : m ≤ a + b = omega (arith, le) in
    ap (λ k. min (k + b) m) here ∙ min-eq_right one ∙ sym (min-eq_right two)

below : (a b m : ℕ) → a ≤ m → min (min a m + b) m ≡ min (a + b) m
below a b m le =
    let here : min a m ≡ a = min-eq_left le in
    ap (λ k. min (k + b) m) here

pub saturates : (a b m : ℕ) → min (min a m + b) m ≡ min (a + b) m
saturates a b m = elim (cases_order a m) [
  | inl e ↦ at_most a b m (omega (arith, e))
  | inr h ↦ elim h [
    | inl l ↦ below a b m (omega (arith, l))
    | inr g ↦ at_most a b m (omega (arith, g))
  ]
]
