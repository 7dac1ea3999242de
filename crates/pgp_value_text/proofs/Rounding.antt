-- Powers, and numbers in a range of them.
use Rattle.std.proofs.Common.{◌≡◌, ℕ, suc, ◌+◌, ◌-◌, ◌*◌, ◌/◌, ◌%◌, ◌^◌, ◌<◌, ◌≤◌, ◌∷◌, refl, arith}
use Rattle.pgp_value_text.proofs.Common.{last_digits}
use lib.Pow.{pow_mono}
use native.Mathlib.Nat.{mul-le-mul, one-le-pow, pow-le-pow_right}

pub tens_pos : (k : ℕ) → 0 < 10 ^ k
tens_pos k = one-le-pow k 10 (omega arith)

pub twos_small : (k : ℕ) → k ≤ 120 → 2 ^ k < 2 ^ 126
twos_small k h = let e : 2 ^ k ≤ 2 ^ 120 = pow_mono h in omega (arith, e)

pub product_small : (n k : ℕ) → n < 2 ^ 53 → k ≤ 19 → n * 10 ^ k < 2 ^ 118
product_small n k h l =
    let e : 10 ^ k ≤ 10 ^ 19 = pow-le-pow_right (omega arith) l in
    let p : n * 10 ^ k ≤ 2 ^ 53 * 10 ^ 19 = mul-le-mul {n₁ = n} {m₁ = 10 ^ k} {n₂ = 2 ^ 53} {m₂ = 10 ^ 19} (omega (arith, h)) e in
    omega (arith, p)

-- the highest of the last digits, and the others
pub first_digit : (p k n : ℕ) → k < p → last_digits (p - k) n ≡ (48 + n / 10 ^ (p - 1 - k) % 10) ∷ last_digits (p - (k + 1)) n
first_digit p k n h =
    let a : p - k ≡ suc (p - 1 - k) = omega arith in
    let b : p - (k + 1) ≡ p - 1 - k = omega arith in
    rw (a, b) refl
