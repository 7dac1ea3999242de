-- Numbers in limbs: their products, what they begin with, and how they are rounded by that.
use Rattle.std.proofs.Common.{◌≡◌, ℕ, zero, suc, ◌+◌, ◌-◌, ◌*◌, ◌/◌, ◌%◌, ◌^◌, ◌<◌, ◌≤◌, ◌∷◌, [], ◌++◌, Bool, true, false, true≢false, List, length, length-append, drop, refl, sym, ap, ◌∙◌, subst, arith, get_or, ◌⊎◌, inl, inr}
use Rattle.std.proofs.Math.Pow.{pow-add}
use Rattle.std.proofs.lemmas.List.{drop_more}
use Rattle.pgp_value_text.proofs.Rounding.{tens_pos}
use Rattle.pgp_value_text.specs.Tens.{value_of, BeginsWith, IsCut, IsHalfCut}
use lib.Ieee.Nearest.{closest, closest_same, nearest-ge}
use lib.Ieee.Fits.{nearest-le}
use mir.Val.{bool_byte}
use lib.Arith.{digits_div, digits_mod}
use lib.Ieee.{nearest}
use Prim.Native.Nat.compare
use Prim.Native.Nat.{compare, Ordering}
use native.Mathlib.Nat.{pow-suc, pow-zero, mul-zero, mul-suc, mul-le-mul, mul-le-mul_left, mul-le-mul_right, one-le-pow, div-add-mod', mod-lt, eq-zero-or-pos, le_trans, pow-le-pow_right, le-div_iff_mul-le}

-- a limb is below this
abbrev pub limb : ℕ
limb = 1_000_000_000

pub value_push : (xs : List ℕ) (x : ℕ) → value_of (xs ++ x ∷ []) ≡ value_of xs + limb ^ length xs * x
value_push [] x = omega (arith, pow-zero limb)
value_push (y ∷ ys) x =
    let e = value_push ys x in
    let p : limb ^ suc (length ys) * x ≡ limb ^ length ys * limb * x = ap (λ n. n * x) (pow-suc limb (length ys)) in
    omega (arith, e, p)

value_drop : (xs : List ℕ) (i d : ℕ) → i < length xs → value_of (drop i xs) ≡ get_or xs i d + limb * value_of (drop (i + 1) xs)
value_drop xs i d h = ap value_of (drop_more xs i d h)

-- one limb more of a product
times_more : (v p sum carry f x rest : ℕ) → sum ≡ x * f + carry → v + p * (sum % limb) + p * limb * (sum / limb + f * rest) ≡ v + p * (carry + f * (x + limb * rest))
times_more v p sum carry f x rest e =
    let d : p * (limb * (sum / limb) + sum % limb) ≡ p * (x * f + carry) = ap (λ n. p * n) (let s : limb * (sum / limb) + sum % limb ≡ sum = omega arith in s ∙ e) in
    omega (arith, d)

pub carry_small : (x f carry : ℕ) → x < limb → carry ≤ f → f < limb → (x * f + carry < limb * limb) × ((x * f + carry) / limb ≤ f)
carry_small x f carry h c l =
    let m : x * f ≤ 999_999_999 * f = mul-le-mul_right f (omega (arith, h)) in
    (omega (arith, m, c, l), omega (arith, m, c))

pub times_step : (xs out new : List ℕ) (i d f carry sum : ℕ) → i < length xs → sum ≡ get_or xs i d * f + carry → new ≡ out ++ (sum % limb) ∷ []
    → value_of out + limb ^ length out * (carry + f * value_of (drop i xs)) ≡ value_of xs * f
    → value_of new + limb ^ length new * (sum / limb + f * value_of (drop (i + 1) xs)) ≡ value_of xs * f
times_step xs out new i d f carry sum h e grown inv =
    let rest = value_of (drop (i + 1) xs) in
    let p = limb ^ length out in
    let v : value_of new ≡ value_of out + p * (sum % limb) = ap value_of grown ∙ value_push out (sum % limb) in
    let l : limb ^ length new ≡ p * limb = ap (λ y. limb ^ length y) grown ∙ (ap (λ n. limb ^ n) (length-append out ((sum % limb) ∷ [])) ∙ pow-add limb (length out) 1) in
    let one : value_of new + limb ^ length new * (sum / limb + f * rest) ≡ value_of out + p * (sum % limb) + p * limb * (sum / limb + f * rest) = rw (v, l) refl in
    one ∙ (times_more (value_of out) p sum carry f (get_or xs i d) rest e ∙ (ap (λ y. value_of out + p * (carry + f * y)) (sym (value_drop xs i d h)) ∙ inv))

-- another limb behind the front
pub front_behind : (number limbs value x : ℕ) (more and : Bool) → 10 ^ 18 ≤ number → x < limb → BeginsWith number more limbs value
    → (and ≡ false → (more ≡ false) × (x ≡ 0)) → (and ≡ true → more ≡ false → 0 < x) → BeginsWith number and (limbs + 1) (x + limb * value)
front_behind number limbs v x more and high lx h nothing something =
    let p : limb ^ (limbs + 1) ≡ limb ^ limbs * limb = pow-add limb limbs 1 in
    record {
      rest = x + limb * h.rest;
      whole = rw p (omega (arith, h.whole));
      below = rw p (omega (arith, h.below, lx));
      some = λ e. either more refl e;
      none = λ e. let n = nothing e in let z : h.rest ≡ 0 = h.none n.0 in omega (arith, z, n.1);
      full = λ l. absurd (omega (arith, l, high));
      small = h.small;
    }
  where
    either : (b : Bool) → b ≡ more → and ≡ true → 0 < x + limb * h.rest
    either true e f = let s = h.some (sym e) in omega (arith, s)
    either false e f = let s = something f (sym e) in omega (arith, s)

front_large : (number limbs value : ℕ) (more : Bool) → 10 ^ 18 ≤ value → BeginsWith number more limbs value → 10 ^ 18 ≤ number
front_large number limbs v more large h = omega (arith, no_less)
  where
    no_less : ¬ (number < 10 ^ 18)
    no_less low =
        let no = h.full low in
        let one : limb ^ limbs ≡ 1 = ap (λ k. limb ^ k) no.0 ∙ pow-zero limb in
        let w : v ≡ number * 1 + 0 = h.whole ∙ (ap (λ k. number * k + h.rest) one ∙ ap (λ k. number * 1 + k) (h.none no.1)) in
        omega (arith, w, low, large)

pub tens_27 : (k : ℕ) → k ≤ 27 → 10 ^ k ≤ 10 ^ 27
tens_27 k h = pow-le-pow_right (omega arith) h

pow_5 : (b k : ℕ) → b ≤ 5 → b ^ k ≤ 5 ^ k
pow_5 b zero h = omega (arith, pow-zero b, pow-zero 5)
pow_5 b (suc k) h = rw (pow-suc b k, pow-suc 5 k) (mul-le-mul (pow_5 b k h) h)

-- twelve factors of a digit
pub twelve : (b k : ℕ) → b ≤ 5 → k ≤ 12 → b ^ k ≤ 5 ^ 12
twelve b k h l = le_trans (pow_5 b k h) (pow-le-pow_right (omega arith) l)

pub closest_one : (a : ℕ) → a < 2 * 10 ^ 27 → closest a (2 * 10 ^ 27) ≤ 1
closest_one a h =
    let z : a / (2 * 10 ^ 27) ≡ 0 = omega (arith, h) in
    subst (λ w. closest a (2 * 10 ^ 27) ≤ suc w) z (nearest-le (a / (2 * 10 ^ 27)) (compare (a % (2 * 10 ^ 27) * 2) (2 * 10 ^ 27)))

compare-lt : (a b : ℕ) → a < b → compare a b ≡ Ordering.lt
compare-lt zero (suc b) h = compare.zero-suc b
compare-lt (suc a) (suc b) h = compare.suc-suc a b ∙ compare-lt a b (omega arith)
compare-lt a zero h = absurd (omega arith)

compare-gt : (a b : ℕ) → b < a → compare a b ≡ Ordering.gt
compare-gt (suc a) zero h = compare.suc-zero a
compare-gt (suc a) (suc b) h = compare.suc-suc a b ∙ compare-gt a b (omega arith)
compare-gt zero b h = absurd (omega arith)

-- q times u and a rest, of which the half decides
module _ (u q r : ℕ) (below : r < u) where
  closest_at : closest (q * u + r) u ≡ nearest q (compare (r * 2) u)
  closest_at = λ i. nearest (digits_div q below i) (compare (digits_mod q below i * 2) u)

  closest_below : r * 2 < u → closest (q * u + r) u ≡ q
  closest_below h = closest_at ∙ ap (nearest q) (compare-lt (r * 2) u h)

  closest_above : u < r * 2 → closest (q * u + r) u ≡ suc q
  closest_above h = closest_at ∙ ap (nearest q) (compare-gt (r * 2) u h)

module _ (m h b r : ℕ) (some : 0 < h) (rest : 0 < r) (below : r < b) where
  -- with digits behind it a number is rounded as an odd one in whose middle they are
  closest_rest : closest (m * b + r) (2 * h * b) ≡ closest (2 * m + 1) (2 * (2 * h))
  closest_rest = ap (λ n. closest n (2 * h * b)) whole ∙ (either (eq-zero-or-pos (h - t)) ∙ sym (ap (λ n. closest n (2 * (2 * h))) doubled))
    where
      q : ℕ
      q = m / (2 * h)

      t : ℕ
      t = m % (2 * h)

      is : q * (2 * h) + t ≡ m
      is = div-add-mod' m (2 * h)

      last : t + 1 ≤ 2 * h
      last = let l : m % (2 * h) < 2 * h = mod-lt m (omega (arith, some)) in omega (arith, l)

      whole : m * b + r ≡ q * (2 * h * b) + (t * b + r)
      whole = let e = ap (λ k. k * b) is in omega (arith, e)

      doubled : 2 * m + 1 ≡ q * (2 * (2 * h)) + (2 * t + 1)
      doubled = omega (arith, is)

      inside : t * b + r < 2 * h * b
      inside = let f : (t + 1) * b ≤ 2 * h * b = mul-le-mul_right b last in omega (arith, f, below)

      inside_doubled : 2 * t + 1 < 2 * (2 * h)
      inside_doubled = omega (arith, last)

      either : (h - t ≡ 0) ⊎ (0 < h - t) → closest (q * (2 * h * b) + (t * b + r)) (2 * h * b) ≡ closest (q * (2 * (2 * h)) + (2 * t + 1)) (2 * (2 * h))
      either (inl z) =
          let high : h ≤ t = omega (arith, z) in
          let p : h * b ≤ t * b = mul-le-mul_right b high in
          closest_above (2 * h * b) q (t * b + r) inside (omega (arith, p, rest)) ∙ sym (closest_above (2 * (2 * h)) q (2 * t + 1) inside_doubled (omega (arith, high)))
      either (inr pos) =
          let low : t + 1 ≤ h = omega (arith, pos) in
          let p : (t + 1) * b ≤ h * b = mul-le-mul_right b low in
          closest_below (2 * h * b) q (t * b + r) inside (omega (arith, p, below)) ∙ sym (closest_below (2 * (2 * h)) q (2 * t + 1) inside_doubled (omega (arith, low)))

pub ten_least : (k : ℕ) → 0 < k → 10 ≤ 10 ^ k
ten_least k h = let e : 10 ^ 1 ≤ 10 ^ k = pow-le-pow_right (omega arith) h in e

pow-mul : (a m n : ℕ) → a ^ (m * n) ≡ (a ^ m) ^ n
pow-mul a m zero = ap (λ x. a ^ x) (mul-zero m) ∙ pow-zero a ∙ sym (pow-zero (a ^ m))
pow-mul a m (suc n) = ap (λ x. a ^ x) (mul-suc m n) ∙ pow-add a (m * n) m ∙ ap (λ x. x * a ^ m) (pow-mul a m n) ∙ sym (pow-suc (a ^ m) n)

limbs_tens : (k j : ℕ) → 10 ^ (9 * k + j) ≡ limb ^ k * 10 ^ j
limbs_tens k j = pow-add 10 (9 * k) j ∙ ap (λ n. n * 10 ^ j) (pow-mul 10 9 k)

-- of the digits behind a number's front, whether one isn't 0 decides how it is rounded
front_closest : (number limbs value j : ℕ) (more : Bool) → BeginsWith number more limbs value → closest value (10 ^ (9 * limbs + (j + 1))) ≡ closest (number * 2 + bool_byte more) (2 * 10 ^ (j + 1))
front_closest number limbs v j false h =
    let z : h.rest ≡ 0 = h.none refl in
    let p = limbs_tens limbs (j + 1) in
    closest_same v (10 ^ (9 * limbs + (j + 1))) (number * 2 + 0) (2 * 10 ^ (j + 1)) (tens_pos (9 * limbs + (j + 1))) (omega (arith, tens_pos (j + 1))) (rw p (omega (arith, h.whole, ap (λ r. r * 10 ^ (j + 1)) z, ap (λ r. r * 10 ^ (j + 1)) h.whole)))
front_closest number limbs v j true h =
    let p : 10 ^ (9 * limbs + (j + 1)) ≡ 2 * (5 * 10 ^ j) * limb ^ limbs = limbs_tens limbs (j + 1) ∙ (ap (λ n. limb ^ limbs * n) (pow-add 10 j 1) ∙ (let e : limb ^ limbs * (10 ^ j * 10) ≡ 2 * (5 * 10 ^ j) * limb ^ limbs = omega arith in e)) in
    let q : 2 * (2 * (5 * 10 ^ j)) ≡ 2 * 10 ^ (j + 1) = (let e : 2 * (2 * (5 * 10 ^ j)) ≡ 2 * (10 ^ j * 10) = omega arith in e) ∙ ap (λ n. 2 * n) (sym (pow-add 10 j 1)) in
    let m : 2 * number + 1 ≡ number * 2 + 1 = omega arith in
    ap (λ n. closest n (10 ^ (9 * limbs + (j + 1)))) h.whole
    ∙ (ap (λ d. closest (number * limb ^ limbs + h.rest) d) p
    ∙ (closest_rest number (5 * 10 ^ j) (limb ^ limbs) h.rest (omega (arith, tens_pos j)) (h.some refl) h.below
    ∙ (ap (λ d. closest (2 * number + 1) d) q ∙ ap (λ n. closest n (2 * 10 ^ (j + 1))) m)))

-- as many digits as the front has are too many
front_many : (digits number limbs value k : ℕ) (more : Bool) → digits ≤ 15 → 10 ^ 18 ≤ number → k ≤ 9 * limbs → BeginsWith number more limbs value → 10 ^ digits ≤ closest value (10 ^ k)
front_many digits number limbs v k more few large l h =
    let d : 10 ^ digits ≤ 10 ^ 15 = pow-le-pow_right (omega arith) few in
    let p : 10 ^ k ≤ 10 ^ (9 * limbs) = pow-le-pow_right (omega arith) l in
    let e : 10 ^ (9 * limbs) ≡ limb ^ limbs = pow-mul 10 9 limbs in
    let m : 10 ^ 15 * 10 ^ k ≤ number * limb ^ limbs = mul-le-mul {n₁ = 10 ^ 15} {m₁ = 10 ^ k} {n₂ = number} {m₂ = limb ^ limbs} (omega (arith, large)) (omega (arith, p, e)) in
    let w : 10 ^ 15 * 10 ^ k ≤ v = omega (arith, m, h.whole) in
    le_trans d (le_trans ((le-div_iff_mul-le (tens_pos k)).1 w) (nearest-ge (v / 10 ^ k) (compare (v % 10 ^ k * 2) (10 ^ k))))

pub is_cut : (digits number limbs value n tens : ℕ) (more : Bool) → digits ≤ 15 → 10 ^ 18 ≤ value → BeginsWith number more limbs value → IsHalfCut digits (number * 2 + bool_byte more) n tens → IsCut digits value n (tens + 9 * limbs)
is_cut digits number limbs v n tens more few large h c = record {
  some = omega (arith, c.some);
  is = let e = at tens c.some in c.is ∙ (sym e ∙ ap (λ k. closest v (10 ^ k)) (let s : 9 * limbs + tens ≡ tens + 9 * limbs = omega arith in s));
  fits = c.fits;
  fewest = λ k l. either k l (eq-zero-or-pos (k - 9 * limbs));
}
  where
    at : (k : ℕ) → 0 < k → closest v (10 ^ (9 * limbs + k)) ≡ closest (number * 2 + bool_byte more) (2 * 10 ^ k)
    at k pos =
        let e : k - 1 + 1 ≡ k = omega (arith, pos) in
        subst (λ k. closest v (10 ^ (9 * limbs + k)) ≡ closest (number * 2 + bool_byte more) (2 * 10 ^ k)) e (front_closest number limbs v (k - 1) more h)

    either : (k : ℕ) → k < tens + 9 * limbs → (k - 9 * limbs ≡ 0) ⊎ (0 < k - 9 * limbs) → 10 ^ digits ≤ closest v (10 ^ k)
    either k l (inl z) = front_many digits number limbs v k more few (front_large number limbs v more large h) (omega (arith, z)) h
    either k l (inr p) =
        let s : 9 * limbs + (k - 9 * limbs) ≡ k = omega (arith, p) in
        subst (λ x. 10 ^ digits ≤ x) (sym (at (k - 9 * limbs) p) ∙ ap (λ k. closest v (10 ^ k)) s) (c.fewest (k - 9 * limbs) p (omega (arith, l, p)))

-- the number has as many digits as its front at least
pub large_product : (num base count : ℕ) → 0 < num → 0 < base → 10 ^ 18 ≤ num * 10 ^ 18 * base ^ count
large_product num base count some pos =
    let p : 1 ≤ base ^ count = one-le-pow count base pos in
    let m : 10 ^ 18 ≤ num * 10 ^ 18 = omega (arith, some) in
    let t : num * 10 ^ 18 * 1 ≤ num * 10 ^ 18 * base ^ count = mul-le-mul_left (num * 10 ^ 18) p in
    omega (arith, m, t)
