-- A number in the form that a server keeps is the only one that is the same number.
use Rattle.pgp_values.proofs.Common.{◌≡◌, ◌≢◌, ◌⊎◌, inl, inr, ℕ, suc, ℤ, pos, negsuc, ◌+◌, ◌-◌, ◌*◌, ◌<◌, ◌≤◌, ◌^◌, Bool, false, List, [], ◌∷◌, length, refl, sym, ap, ◌∙◌, arith, mul_assoc, mul_comm, pow-le-pow_right, one-le-pow, mul-le-mul, le_of_mul-le-mul_right, cases_order, pow-add, spelled, before_point, behind_by, Decimal, IsDigits, HasNoZeroEnds, last_of, Reported, raised, lowered, IsValueOf}
use Rattle.pgp_values.proofs.AmountLemmas.{power_four}
use Rattle.pgp_values.proofs.GroupLemmas.{spelled_most}
use Rattle.pgp_values.specs.DecimalDigits.{decimal_of}

pub times_same : (x y k : ℕ) → 1 ≤ k → x * k ≡ y * k → x ≡ y
times_same x y k some e =
    let a : x ≤ y = le_of_mul-le-mul_right (omega (arith, e)) some in
    let b : y ≤ x = le_of_mul-le-mul_right (omega (arith, e)) some in
    omega (arith, a, b)

power_next : (n : ℕ) → 10000 ^ suc n ≡ 10000 * 10000 ^ n
power_next n =
    let one : 1 + n ≡ suc n = omega arith in
    ap (λ k. 10000 ^ k) (sym one) ∙ pow-add 10000 1 n

power_some : (n : ℕ) → 1 ≤ 10000 ^ n
power_some n = one-le-pow n 10000 (omega arith)

spelled_first : (d : ℕ) (ds : List ℕ) → d ≢ 0 → 10000 ^ length ds ≤ spelled 10000 (d ∷ ds)
spelled_first d ds some =
    let one : 1 ≤ d = omega (arith, some) in
    let m : 1 * 10000 ^ length ds ≤ d * 10000 ^ length ds = mul-le-mul one (omega arith) in
    omega (arith, m)

-- the last digit is what is left
spelled_last : (d : ℕ) (ds : List ℕ) → (q : ℕ) × (spelled 10000 (d ∷ ds) ≡ 10000 * q + last_of d ds)
spelled_last d [] = (0, omega arith)
spelled_last d (e ∷ ds) =
    let rest = spelled_last e ds in
    let p = power_next (length ds) in
    let first : d * 10000 ^ suc (length ds) ≡ 10000 * (d * 10000 ^ length ds) = ap (λ x. d * x) p ∙ (sym (mul_assoc d 10000 (10000 ^ length ds)) ∙ (ap (λ x. x * 10000 ^ length ds) (mul_comm d 10000) ∙ mul_assoc 10000 d (10000 ^ length ds))) in
    (d * 10000 ^ length ds + rest.0, omega (arith, first, rest.1))

last_small : (d : ℕ) (ds : List ℕ) → IsDigits (d ∷ ds) → last_of d ds < 10000
last_small d [] h = h.0
last_small d (e ∷ ds) h = last_small e ds h.1

-- no such number is a power more of another
not_times : (d : ℕ) (ds : List ℕ) → IsDigits (d ∷ ds) → last_of d ds ≢ 0 → (x n : ℕ) → spelled 10000 (d ∷ ds) ≡ x * 10000 ^ suc n → ⊥
not_times d ds h some x n e =
    let rest = spelled_last d ds in
    let p : x * 10000 ^ suc n ≡ 10000 * (x * 10000 ^ n) = ap (λ y. x * y) (power_next n) ∙ (sym (mul_assoc x 10000 (10000 ^ n)) ∙ (ap (λ y. y * 10000 ^ n) (mul_comm x 10000) ∙ mul_assoc 10000 x (10000 ^ n))) in
    omega (arith, rest.1, e, p, last_small d ds h, some)

head_least : (d e n s t : ℕ) → s < 10000 ^ n → d * 10000 ^ n + s ≡ e * 10000 ^ n + t → d < e → ⊥
head_least d e n s t small same less =
    let m : (d + 1) * 10000 ^ n ≤ e * 10000 ^ n = mul-le-mul (omega arith) (omega arith) in
    let spread : (d + 1) * 10000 ^ n ≡ d * 10000 ^ n + 10000 ^ n = omega arith in
    omega (arith, m, spread, small, same)

heads_same : (d e n s t : ℕ) → s < 10000 ^ n → t < 10000 ^ n → d * 10000 ^ n + s ≡ e * 10000 ^ n + t → d ≡ e
heads_same d e n s t a b same = elim (cases_order d e) [
  | inl is ↦ is
  | inr other ↦ elim other [
    | inl less ↦ absurd (head_least d e n s t a same less)
    | inr more ↦ absurd (head_least e d n t s b (sym same) more)
  ]
]

pub spelled_one : (ds es : List ℕ) → IsDigits ds → IsDigits es → length ds ≡ length es → spelled 10000 ds ≡ spelled 10000 es → ds ≡ es
spelled_one [] [] h k n e = refl
spelled_one [] (x ∷ es) h k n e = absurd (omega (arith, n))
spelled_one (d ∷ ds) [] h k n e = absurd (omega (arith, n))
spelled_one (d ∷ ds) (x ∷ es) h k n e =
    let size : length ds ≡ length es = omega (arith, n) in
    let same : d * 10000 ^ length ds + spelled 10000 ds ≡ x * 10000 ^ length ds + spelled 10000 es = e ∙ ap (λ m. x * 10000 ^ m + spelled 10000 es) (sym size) in
    let small : spelled 10000 es < 10000 ^ length ds = rw size (spelled_most es k.1) in
    let head = heads_same d x (length ds) (spelled 10000 ds) (spelled 10000 es) (spelled_most ds h.1) small same in
    let first : d * 10000 ^ length ds ≡ x * 10000 ^ length ds = ap (λ y. y * 10000 ^ length ds) head in
    let rest = spelled_one ds es h.1 k.1 size (omega (arith, same, first)) in
    rw (head, rest) refl

shorter : (d : ℕ) (ds es : List ℕ) → d ≢ 0 → IsDigits es → spelled 10000 (d ∷ ds) ≡ spelled 10000 es → length es < suc (length ds) → ⊥
shorter d ds es some h e less =
    let low = spelled_first d ds some in
    let up : 10000 ^ length es ≤ 10000 ^ length ds = pow-le-pow_right (omega arith) (omega arith) in
    omega (arith, low, up, spelled_most es h, e)

lengths_same : (d x : ℕ) (ds es : List ℕ) → d ≢ 0 → x ≢ 0 → IsDigits (d ∷ ds) → IsDigits (x ∷ es) → spelled 10000 (d ∷ ds) ≡ spelled 10000 (x ∷ es) → length ds ≡ length es
lengths_same d x ds es a b h k e = elim (cases_order (length ds) (length es)) [
  | inl is ↦ is
  | inr other ↦ elim other [
    | inl less ↦ absurd (shorter x es (d ∷ ds) b h (sym e) (omega (arith, less)))
    | inr more ↦ absurd (shorter d ds (x ∷ es) a k e (omega (arith, more)))
  ]
]

-- a number with an end that isn't 0 is a power more of no other
apart : (d x : ℕ) (ds es : List ℕ) (a b : ℕ) → IsDigits (d ∷ ds) → last_of d ds ≢ 0 → spelled 10000 (d ∷ ds) * 10000 ^ a ≡ spelled 10000 (x ∷ es) * 10000 ^ b → a < b → ⊥
apart d x ds es a b h some e less =
    let n = b - a - 1 in
    let sum : b ≡ suc n + a = omega (arith, less) in
    let y = spelled 10000 (x ∷ es) in
    let p : y * 10000 ^ b ≡ y * 10000 ^ suc n * 10000 ^ a = ap (λ k. y * 10000 ^ k) sum ∙ (ap (λ z. y * z) (pow-add 10000 (suc n) a) ∙ sym (mul_assoc y (10000 ^ suc n) (10000 ^ a))) in
    not_times d ds h some y n (times_same (spelled 10000 (d ∷ ds)) (y * 10000 ^ suc n) (10000 ^ a) (power_some a) (e ∙ p))

pub record SameDigits (ds es : List ℕ) (a b : ℕ) : Type 0 where
  pub digits : ds ≡ es
  pub powers : a ≡ b

pub same_digits : (d x : ℕ) (ds es : List ℕ) (a b : ℕ) → IsDigits (d ∷ ds) → IsDigits (x ∷ es) → HasNoZeroEnds (d ∷ ds) → HasNoZeroEnds (x ∷ es) → spelled 10000 (d ∷ ds) * 10000 ^ a ≡ spelled 10000 (x ∷ es) * 10000 ^ b → SameDigits (d ∷ ds) (x ∷ es) a b
same_digits d x ds es a b h k m n e = elim (cases_order a b) [
  | inl is ↦
      let same = times_same (spelled 10000 (d ∷ ds)) (spelled 10000 (x ∷ es)) (10000 ^ a) (power_some a) (e ∙ ap (λ z. spelled 10000 (x ∷ es) * 10000 ^ z) (sym is)) in
      let size = lengths_same d x ds es m.0 n.0 h k same in
      record { digits = spelled_one (d ∷ ds) (x ∷ es) h k (ap suc size) same; powers = is }
  | inr other ↦ elim other [
    | inl less ↦ absurd (apart d x ds es a b h m.1 e less)
    | inr more ↦ absurd (apart x d es ds b a k n.1 (sym e) more)
  ]
]

-- weights, as powers of 10,000 before the point and after it

abbrev ups : ℤ → ℕ
ups (pos k) = k + 1
ups (negsuc j) = 0

abbrev downs : ℤ → ℕ
downs (pos k) = 0
downs (negsuc j) = j

before_four : (z : ℤ) → before_point z ≡ 4 * ups z
before_four (pos k) = omega arith
before_four (negsuc j) = refl

behind_four : (z : ℤ) → behind_by z ≡ 4 * downs z
behind_four (pos k) = refl
behind_four (negsuc j) = refl

weight_one : (w z : ℤ) → ups w + downs z ≡ ups z + downs w → w ≡ z
weight_one (pos k) (pos m) e = ap pos (omega (arith, e))
weight_one (pos k) (negsuc j) e = absurd (omega (arith, e))
weight_one (negsuc j) (pos k) e = absurd (omega (arith, e))
weight_one (negsuc j) (negsuc m) e = ap negsuc (omega (arith, e))

-- two numbers that are both the same as a third
cross : (x y s p q m n : ℕ) → x * 10 ^ p ≡ s * 10 ^ m → y * 10 ^ q ≡ s * 10 ^ n → x * 10 ^ (p + n) ≡ y * 10 ^ (q + m)
cross x y s p q m n e f =
    let a : x * 10 ^ (p + n) ≡ s * 10 ^ m * 10 ^ n = ap (λ k. x * k) (pow-add 10 p n) ∙ (sym (mul_assoc x (10 ^ p) (10 ^ n)) ∙ ap (λ k. k * 10 ^ n) e) in
    let b : y * 10 ^ (q + m) ≡ s * 10 ^ n * 10 ^ m = ap (λ k. y * k) (pow-add 10 q m) ∙ (sym (mul_assoc y (10 ^ q) (10 ^ m)) ∙ ap (λ k. k * 10 ^ m) f) in
    let c : s * 10 ^ m * 10 ^ n ≡ s * 10 ^ n * 10 ^ m = mul_assoc s (10 ^ m) (10 ^ n) ∙ (ap (λ k. s * k) (mul_comm (10 ^ m) (10 ^ n)) ∙ sym (mul_assoc s (10 ^ n) (10 ^ m))) in
    a ∙ (c ∙ sym b)

-- without what both have
fours : (x y a b c p q : ℕ) → p ≡ 4 * a + c → q ≡ 4 * b + c → x * 10 ^ p ≡ y * 10 ^ q → x * 10000 ^ a ≡ y * 10000 ^ b
fours x y a b c p q e f same =
    let u : x * 10 ^ p ≡ x * 10000 ^ a * 10 ^ c = ap (λ k. x * 10 ^ k) e ∙ (ap (λ k. x * k) (pow-add 10 (4 * a) c ∙ ap (λ k. k * 10 ^ c) (power_four a)) ∙ sym (mul_assoc x (10000 ^ a) (10 ^ c))) in
    let v : y * 10 ^ q ≡ y * 10000 ^ b * 10 ^ c = ap (λ k. y * 10 ^ k) f ∙ (ap (λ k. y * k) (pow-add 10 (4 * b) c ∙ ap (λ k. k * 10 ^ c) (power_four b)) ∙ sym (mul_assoc y (10000 ^ b) (10 ^ c))) in
    times_same (x * 10000 ^ a) (y * 10000 ^ b) (10 ^ c) (one-le-pow c 10 (omega arith)) (sym u ∙ (same ∙ v))

pub no_amount : (d : ℕ) (ds : List ℕ) (p m s : ℕ) → d ≢ 0 → spelled 10000 (d ∷ ds) * 10 ^ p ≡ s * 10 ^ m → s ≡ 0 → ⊥
no_amount d ds p m s some e none =
    let low = spelled_first d ds some in
    let more : 10000 ^ length ds * 1 ≤ spelled 10000 (d ∷ ds) * 10 ^ p = mul-le-mul low (one-le-pow p 10 (omega arith)) in
    let nothing : s * 10 ^ m ≡ 0 = ap (λ k. k * 10 ^ m) none ∙ omega arith in
    omega (arith, more, e, nothing, power_some (length ds))

sign_is : (d : ℕ) (ds : List ℕ) (p m s : ℕ) (a b : Bool) → d ≢ 0 → spelled 10000 (d ∷ ds) * 10 ^ p ≡ s * 10 ^ m → (a ≡ b) ⊎ ((s ≡ 0) × (a ≡ false)) → a ≡ b
sign_is d ds p m s a b some e (inl is) = is
sign_is d ds p m s a b some e (inr none) = absurd (no_amount d ds p m s some e none.0)

made_same : (n m : Bool) (w z : ℤ) (s t : ℕ) (ds es : List ℕ) → n ≡ m → w ≡ z → s ≡ t → ds ≡ es → decimal_of n w s ds ≡ decimal_of m z t es
made_same n m w z s t ds es a b c d = rw (a, b, c, d) refl

number_one_by : (t : Reported) (n m : Bool) (w z : ℤ) (s r : ℕ) (ds es : List ℕ) → IsValueOf t (decimal_of n w s ds) → IsValueOf t (decimal_of m z r es) → decimal_of n w s ds ≡ decimal_of m z r es
number_one_by t n m w z s r [] [] a b =
    let x = a.canonical.zero refl in
    let y = b.canonical.zero refl in
    made_same n m w z s r [] [] (x.1 ∙ sym y.1) (x.0 ∙ sym y.0) (a.means.scale ∙ sym b.means.scale) refl
number_one_by t n m w z s r [] (e ∷ es) a b =
    let same = cross 0 (spelled 10000 (e ∷ es)) (spelled 10 t.digits) _ _ _ _ a.means.same b.means.same in
    let none : spelled 10000 (e ∷ es) * 10 ^ _ ≡ 0 * 10 ^ 0 = sym same ∙ omega arith in
    absurd (no_amount e es _ 0 0 b.canonical.ends.0 none refl)
number_one_by t n m w z s r (d ∷ ds) [] a b =
    let same = cross (spelled 10000 (d ∷ ds)) 0 (spelled 10 t.digits) _ _ _ _ a.means.same b.means.same in
    let none : spelled 10000 (d ∷ ds) * 10 ^ _ ≡ 0 * 10 ^ 0 = same ∙ omega arith in
    absurd (no_amount d ds _ 0 0 a.canonical.ends.0 none refl)
number_one_by t n m w z s r (d ∷ ds) (e ∷ es) a b =
    let places = t.places in
    let low = lowered t.divided t.exponent in
    let up = raised t.divided t.exponent in
    let same = cross (spelled 10000 (d ∷ ds)) (spelled 10000 (e ∷ es)) (spelled 10 t.digits) _ _ _ _ a.means.same b.means.same in
    let all = fours (spelled 10000 (d ∷ ds)) (spelled 10000 (e ∷ es)) (ups w + (length (e ∷ es) + downs z)) (ups z + (length (d ∷ ds) + downs w)) (places + low + up) _ _
    (omega (arith, before_four w, behind_four z)) (omega (arith, before_four z, behind_four w)) same in
    let is = same_digits d e ds es _ _ a.fits.digits b.fits.digits a.canonical.ends b.canonical.ends all in
    let size = ap length is.digits in
    made_same n m w z s r (d ∷ ds) (e ∷ es) (sign_is d ds _ _ _ n t.negative a.canonical.ends.0 a.means.same a.means.sign ∙ sym (sign_is e es _ _ _ m t.negative b.canonical.ends.0 b.means.same b.means.sign))
    (weight_one w z (omega (arith, is.powers, size))) (a.means.scale ∙ sym b.means.scale) is.digits

pub number_one : (t : Reported) (d e : Decimal) → IsValueOf t d → IsValueOf t e → d ≡ e
number_one t d e a b = number_one_by t d.negative e.negative d.weight e.weight d.scale e.scale d.digits e.digits a b
