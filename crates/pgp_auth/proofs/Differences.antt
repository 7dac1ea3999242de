-- Two lists that are compared byte by byte.
use Rattle.pgp_auth.proofs.Common.{◌≡◌, ℕ, ◌+◌, ◌<◌, ◌≤◌, List, length, get_or, sym, ap, ◌∙◌, arith, bit_xor, inl, inr, cases_lt, ext_get_or, xor_assoc, xor_self, xor_zero_r}

xor_none : (a b : ℕ) → bit_xor a b ≡ 0 → b ≡ a
xor_none a b e =
    let back : bit_xor (bit_xor a b) b ≡ a = xor_assoc a b b ∙ ap (λ x. bit_xor a x) (xor_self b) ∙ xor_zero_r a in
    rw e at back

pub step_same : (left right : List ℕ) (i sum d : ℕ) → d ≡ bit_xor (get_or left i 0) (get_or right i 0)
    → (sum ≡ 0 → (k : ℕ) → k < i → get_or right k 0 ≡ get_or left k 0) → sum + d ≡ 0 → (k : ℕ) → k < i + 1 → get_or right k 0 ≡ get_or left k 0
step_same left right i sum d is before zero_ k lt = elim (cases_lt k i) [
  | inl below ↦ before (omega arith) k below
  | inr above ↦
      let at : k ≡ i = omega arith in
      let none : d ≡ 0 = omega arith in
      rw at (xor_none (get_or left i 0) (get_or right i 0) (sym is ∙ none))
]

pub step_none : (left right : List ℕ) (i sum d : ℕ) → d ≡ bit_xor (get_or left i 0) (get_or right i 0)
    → (((k : ℕ) → k < i → get_or right k 0 ≡ get_or left k 0) → sum ≡ 0) → ((k : ℕ) → k < i + 1 → get_or right k 0 ≡ get_or left k 0) → sum + d ≡ 0
step_none left right i sum d is before all =
    let s : sum ≡ 0 = before (λ k lt. all k (omega arith)) in
    let same : get_or right i 0 ≡ get_or left i 0 = all i (omega arith) in
    let none : d ≡ 0 = is ∙ rw same (xor_self (get_or left i 0)) in
    omega arith

pub all_same : (left right : List ℕ) (i : ℕ) → length right ≡ length left → length right ≤ i
    → ((k : ℕ) → k < i → get_or right k 0 ≡ get_or left k 0) → right ≡ left
all_same left right i len whole all = ext_get_or 0 right left len (λ k lt. all k (omega arith))
