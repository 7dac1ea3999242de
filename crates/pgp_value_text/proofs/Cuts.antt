-- A fraction that is a rounded number times a power of ten is shown by it.
use Rattle.std.proofs.Common.{◌≡◌, ◌≢◌, ℕ, ◌+◌, ◌-◌, ◌*◌, ◌^◌, ◌<◌, ◌≤◌, ◌⊎◌, List, ◌++◌, inl, inr, refl, sym, ap, ◌∙◌, subst, arith}
use Rattle.std.proofs.Math.Pow.{pow-add}
use Rattle.std.proofs.lemmas.Nat.{mul-pow}
use Rattle.pgp_value_text.proofs.Common.{scaled, trimmed, exponent_text, HasDigits, IsLarge, IsSmall, ShowsSize, codes}
use Rattle.pgp_value_text.proofs.Rounding.{tens_pos}
use Rattle.pgp_value_text.proofs.Sizes.{more_places, shows_some}
use Rattle.pgp_value_text.specs.Tens.{exponent_part, IsCut}
use Rattle.pgp_value_text.specs.declared.size.Exponent.{Exponent}
use Rattle.pgp_value_text.specs.declared.size.Exponent.TheVariants.{Up, Down}
use lib.Ieee.Nearest.{closest, closest_same}
use native.Mathlib.Nat.{mul_assoc, mul-pos, le_trans, eq-zero-or-pos}

-- the fraction a / b is value / 10^at, and isn't shown without an exponent
module _ (digits a b at value n tens : ℕ) (b_pos : 0 < b) (same : a * 10 ^ at ≡ value * b) (cut : IsCut digits value n tens) (none : (t : List ℕ) → HasDigits digits a b t → ⊥) where
  above : (k : ℕ) → closest a (b * 10 ^ k) ≡ closest value (10 ^ (at + k))
  above k =
      let p = pow-add 10 at k in
      closest_same a (b * 10 ^ k) value (10 ^ (at + k)) (mul-pos b_pos (tens_pos k)) (tens_pos (at + k)) (rw p (let e = ap (λ x. x * 10 ^ k) same in omega (arith, e)))

  below : (k : ℕ) → k ≤ at → scaled a b k ≡ closest value (10 ^ (at - k))
  below k l =
      let p : 10 ^ at ≡ 10 ^ k * 10 ^ (at - k) = ap (λ x. 10 ^ x) (let e : at ≡ k + (at - k) = omega arith in e) ∙ pow-add 10 k (at - k) in
      closest_same (a * 10 ^ k) b value (10 ^ (at - k)) b_pos (tens_pos (at - k)) (mul_assoc a (10 ^ k) (10 ^ (at - k)) ∙ (ap (λ x. a * x) (sym p) ∙ same))

  is_large : at < tens → IsLarge digits a b (tens - at)
  is_large l =
      let e : at + (tens - at) ≡ tens = omega arith in
      record {
        some = omega arith;
        fits = subst (λ x. x < 10 ^ digits) (cut.is ∙ sym (above (tens - at) ∙ ap (λ k. closest value (10 ^ k)) e)) cut.fits;
        fewest = λ k m. subst (λ x. 10 ^ digits ≤ x) (sym (above k)) (cut.fewest (at + k) (omega arith));
      }

  has_places : tens ≤ at → scaled a b (at - tens) ≡ n
  has_places l = below (at - tens) (omega arith) ∙ (ap (λ k. closest value (10 ^ k)) (let e : at - (at - tens) ≡ tens = omega arith in e) ∙ sym cut.is)

  has_more : tens ≤ at → (k : ℕ) → at - tens < k → 10 ^ digits ≤ scaled a b k
  has_more l k m = either (eq-zero-or-pos (k - at))
    where
      either : (k - at ≡ 0) ⊎ (0 < k - at) → 10 ^ digits ≤ scaled a b k
      either (inl z) = subst (λ x. 10 ^ digits ≤ x) (sym (below k (omega (arith, z)))) (cut.fewest (at - k) (omega (arith, z, m, l, cut.some)))
      either (inr p) = le_trans (subst (λ x. 10 ^ digits ≤ x) (sym (below at (omega arith))) (cut.fewest (at - at) (omega (arith, cut.some)))) (more_places digits a b b_pos at k (omega (arith, p)))

  is_small : tens ≤ at → IsSmall digits a b (at - tens)
  is_small l =
      let fits : scaled a b (at - tens) < 10 ^ digits = subst (λ x. x < 10 ^ digits) (sym (has_places l)) cut.fits in
      let no_few : ¬ (at - tens ≤ digits + 3) = λ f. none _ (at - tens, record { few = f; fits = fits; most = λ k m _. has_more l k m }, refl) in
      record {
        many = omega (arith, no_few);
        fits = fits;
        most = has_more l;
      }

  pub cut_shows : (e : Exponent) → a ≢ 0 → (at < tens + (digits - 1) → e ≡ Up (tens + (digits - 1) - at)) → (tens + (digits - 1) ≤ at → e ≡ Down (at - (tens + (digits - 1))))
      → ShowsSize digits a b (trimmed (digits - 1) n ++ exponent_part e)
  cut_shows e some up down = either (eq-zero-or-pos (tens - at))
    where
      either : (tens - at ≡ 0) ⊎ (0 < tens - at) → ShowsSize digits a b (trimmed (digits - 1) n ++ exponent_part e)
      either (inl z) =
          let l : tens ≤ at = omega (arith, z) in
          let small = is_small l in
          let is : e ≡ Down (at - tens - (digits - 1)) = down (omega (arith, small.many, l)) ∙ ap Down (let s : at - (tens + (digits - 1)) ≡ at - tens - (digits - 1) = omega arith in s) in
          shows_some digits a b _ some (inr (inr (
            at - tens,
            small,
            ap (λ e. trimmed (digits - 1) n ++ exponent_part e) is
                ∙ ap (λ x. trimmed (digits - 1) x ++ (codes "e-" ++ exponent_text (at - tens - (digits - 1)))) (sym (has_places l)),
          )))
      either (inr p) =
          let l : at < tens = omega (arith, p) in
          let is : e ≡ Up (tens - at + (digits - 1)) = up (omega (arith, l)) ∙ ap Up (let s : tens + (digits - 1) - at ≡ tens - at + (digits - 1) = omega (arith, l) in s) in
          let s : at + (tens - at) ≡ tens = omega (arith, l) in
          shows_some digits a b _ some (inr (inl (
            tens - at,
            is_large l,
            ap (λ e. trimmed (digits - 1) n ++ exponent_part e) is
                ∙ ap (λ x. trimmed (digits - 1) x ++ (codes "e+" ++ exponent_text (tens - at + (digits - 1)))) (cut.is ∙ sym (above (tens - at) ∙ ap (λ k. closest value (10 ^ k)) s)),
          )))

-- num * 2^up / 2^low as whole numbers times powers of ten
pub whole_up : (num up low : ℕ) → low ≤ up → num * 2 ^ up * 10 ^ 18 ≡ num * 10 ^ 18 * 2 ^ (up - low) * 2 ^ low
whole_up num up low h =
    let p : 2 ^ up ≡ 2 ^ (up - low) * 2 ^ low = ap (λ k. 2 ^ k) (let e : up ≡ up - low + low = omega arith in e) ∙ pow-add 2 (up - low) low in
    rw p (omega arith)

pub whole_down : (num up low : ℕ) → up ≤ low → num * 2 ^ up * 10 ^ (18 + (low - up)) ≡ num * 10 ^ 18 * 5 ^ (low - up) * 2 ^ low
whole_down num up low h =
    let p : 2 ^ low ≡ 2 ^ up * 2 ^ (low - up) = ap (λ k. 2 ^ k) (let e : low ≡ up + (low - up) = omega arith in e) ∙ pow-add 2 up (low - up) in
    let q : 10 ^ (18 + (low - up)) ≡ 10 ^ 18 * (2 ^ (low - up) * 5 ^ (low - up)) = pow-add 10 18 (low - up) ∙ ap (λ x. 10 ^ 18 * x) (mul-pow 2 5 (low - up)) in
    rw (p, q) (omega arith)
