-- A size has one text, however its fraction is written.
use Rattle.std.proofs.Common.{◌≡◌, ◌≢◌, ℕ, zero, suc, ◌+◌, ◌-◌, ◌*◌, ◌/◌, ◌^◌, ◌<◌, ◌≤◌, ◌⊎◌, List, ◌++◌, inl, inr, refl, sym, ap, ◌∙◌, subst, arith}
use Rattle.std.proofs.Math.Pow.{pow_mono, pow-add}
use Rattle.pgp_value_text.proofs.Common.{scaled, trimmed, exponent_text, HasDigits, HasSmall, HasLarge, IsSmall, IsPlaces, IsLarge, ShowsSize, codes, decimal, digits}
use Rattle.pgp_value_text.proofs.Rounding.{tens_pos, product_small}
use lib.Pow.{pow_pos}
use lib.Ieee.Nearest.{closest, closest_mono, closest_same, nearest-ge}
use native.Mathlib.Nat.{mul_right_comm, mul_assoc, mul-le-mul, le-div_iff_mul-le, le_trans, lt_of_lt_of_le, lt_irrefl, mul-one, mul-pos, mul-le-mul_left, mul-le-mul_right, pow-le-pow_right, zero-mul, zero-lt-suc}

-- one number of places, since each gives more digits than the former
pub one_places : (digits num den j k : ℕ) → IsPlaces digits num den j → IsPlaces digits num den k → j ≡ k
one_places digits num den j k a b =
    let no_less : ¬ (j < k) = λ l. lt_irrefl _ (lt_of_lt_of_le b.fits (a.most k l (omega (arith, b.few)))) in
    let no_more : ¬ (k < j) = λ l. lt_irrefl _ (lt_of_lt_of_le a.fits (b.most j l (omega (arith, a.few)))) in
    omega (arith, no_less, no_more)

pub one_digits : (digits num den : ℕ) (s t : List ℕ) → HasDigits digits num den s → HasDigits digits num den t → s ≡ t
one_digits digits num den s t a b =
    let same = one_places digits num den a.0 b.0 a.1 b.1 in
    a.2 ∙ (ap (λ k. trimmed k (scaled num den k)) same ∙ sym b.2)

pub one_large : (digits num den : ℕ) (s t : List ℕ) → HasLarge digits num den s → HasLarge digits num den t → s ≡ t
one_large digits num den s t a b =
    let no_less : ¬ (a.0 < b.0) = λ l. lt_irrefl _ (lt_of_lt_of_le a.1.fits (b.1.fewest a.0 l)) in
    let no_more : ¬ (b.0 < a.0) = λ l. lt_irrefl _ (lt_of_lt_of_le b.1.fits (a.1.fewest b.0 l)) in
    let same : a.0 ≡ b.0 = omega (arith, no_less, no_more) in
    a.2 ∙ (ap (λ k. trimmed (digits - 1) (closest num (den * 10 ^ k)) ++ (codes "e+" ++ exponent_text (k + (digits - 1)))) same ∙ sym b.2)

pub one_small : (digits num den : ℕ) (s t : List ℕ) → HasSmall digits num den s → HasSmall digits num den t → s ≡ t
one_small digits num den s t a b =
    let no_less : ¬ (a.0 < b.0) = λ l. lt_irrefl _ (lt_of_lt_of_le b.1.fits (a.1.most b.0 l)) in
    let no_more : ¬ (b.0 < a.0) = λ l. lt_irrefl _ (lt_of_lt_of_le a.1.fits (b.1.most a.0 l)) in
    let same : a.0 ≡ b.0 = omega (arith, no_less, no_more) in
    a.2 ∙ (ap (λ k. trimmed (digits - 1) (scaled num den k) ++ (codes "e-" ++ exponent_text (k - (digits - 1)))) same ∙ sym b.2)

-- a number is shown in one of the three ways
module _ (digits num den : ℕ) (pos : 0 < den) where
  pub more_places : (j k : ℕ) → j ≤ k → scaled num den j ≤ scaled num den k
  more_places j k l = closest_mono (num * 10 ^ j) den (num * 10 ^ k) den pos pos (mul-le-mul_right den (mul-le-mul_left num (pow-le-pow_right (omega arith) l)))

  no_places : (k : ℕ) → closest num (den * 10 ^ 0) ≤ scaled num den k
  no_places k =
      let one : den * 10 ^ 0 ≡ den = omega arith in
      let more : num * den ≤ num * 10 ^ k * den = mul-le-mul_right den (subst (λ x. x ≤ num * 10 ^ k) (mul-one num) (mul-le-mul_left num (tens_pos k))) in
      subst (λ x. closest num x ≤ scaled num den k) (sym one) (closest_mono num den (num * 10 ^ k) den pos pos more)

  large_apart : (k j : ℕ) → IsLarge digits num den k → scaled num den j < 10 ^ digits → ⊥
  large_apart k j t fits = lt_irrefl _ (lt_of_lt_of_le fits (le_trans (t.fewest 0 t.some) (no_places j)))

  small_apart : (j k : ℕ) → IsPlaces digits num den j → IsSmall digits num den k → ⊥
  small_apart j k p f = lt_irrefl _ (lt_of_lt_of_le f.fits (le_trans (p.most (digits + 4) (omega (arith, p.few)) (omega arith)) (more_places (digits + 4) k f.many)))

  one_some : (s t : List ℕ) → HasDigits digits num den s ⊎ (HasLarge digits num den s ⊎ HasSmall digits num den s)
      → HasDigits digits num den t ⊎ (HasLarge digits num den t ⊎ HasSmall digits num den t) → s ≡ t
  one_some s t (inl a) (inl b) = one_digits digits num den s t a b
  one_some s t (inl a) (inr (inl b)) = absurd (large_apart b.0 a.0 b.1 a.1.fits)
  one_some s t (inl a) (inr (inr b)) = absurd (small_apart a.0 b.0 a.1 b.1)
  one_some s t (inr (inl a)) (inl b) = absurd (large_apart a.0 b.0 a.1 b.1.fits)
  one_some s t (inr (inl a)) (inr (inl b)) = one_large digits num den s t a b
  one_some s t (inr (inl a)) (inr (inr b)) = absurd (large_apart a.0 b.0 a.1 b.1.fits)
  one_some s t (inr (inr a)) (inl b) = absurd (small_apart b.0 a.0 b.1 a.1)
  one_some s t (inr (inr a)) (inr (inl b)) = absurd (large_apart b.0 a.0 b.1 a.1.fits)
  one_some s t (inr (inr a)) (inr (inr b)) = one_small digits num den s t a b

pub one_size : (digits num den : ℕ) (s t : List ℕ) → 0 < den → ShowsSize digits num den s → ShowsSize digits num den t → s ≡ t
one_size digits zero den s t pos a b = a ∙ sym b
one_size digits (suc num) den s t pos a b = one_some digits (suc num) den pos s t a b

pub shows_some : (digits num den : ℕ) (t : List ℕ) → num ≢ 0 → HasDigits digits num den t ⊎ (HasLarge digits num den t ⊎ HasSmall digits num den t) → ShowsSize digits num den t
shows_some digits zero den t h s = absurd (h refl)
shows_some digits (suc num) den t h s = s

module _ (a b c d : ℕ) (b_pos : 0 < b) (d_pos : 0 < d) (same : a * d ≡ c * b) where
  pub same_scaled : (k : ℕ) → scaled a b k ≡ scaled c d k
  same_scaled k = closest_same (a * 10 ^ k) b (c * 10 ^ k) d b_pos d_pos (mul_right_comm a (10 ^ k) d ∙ (ap (λ x. x * 10 ^ k) same ∙ mul_right_comm c b (10 ^ k)))

  pub same_places : (digits k : ℕ) → IsPlaces digits a b k → IsPlaces digits c d k
  same_places digits k h = record {
    few = h.few;
    fits = subst (λ x. x < 10 ^ digits) (same_scaled k) h.fits;
    most = λ j l m. subst (λ x. 10 ^ digits ≤ x) (same_scaled j) (h.most j l m);
  }

  pub same_digits : (digits : ℕ) (t : List ℕ) → HasDigits digits a b t → HasDigits digits c d t
  same_digits digits t h =
      (h.0, same_places digits h.0 h.1, h.2 ∙ ap (λ x. trimmed h.0 x) (same_scaled h.0))

  same_closest : (k : ℕ) → closest a (b * 10 ^ k) ≡ closest c (d * 10 ^ k)
  same_closest k = closest_same a (b * 10 ^ k) c (d * 10 ^ k) (mul-pos b_pos (tens_pos k)) (mul-pos d_pos (tens_pos k)) (let e = ap (λ x. x * 10 ^ k) same in omega (arith, e))

  same_large : (digits : ℕ) (t : List ℕ) → HasLarge digits a b t → HasLarge digits c d t
  same_large digits t h = (
    h.0,
    record {
      some = h.1.some;
      fits = subst (λ x. x < 10 ^ digits) (same_closest h.0) h.1.fits;
      fewest = λ k l. subst (λ x. 10 ^ digits ≤ x) (same_closest k) (h.1.fewest k l);
    },
    h.2 ∙ ap (λ x. trimmed (digits - 1) x ++ (codes "e+" ++ exponent_text (h.0 + (digits - 1)))) (same_closest h.0),
  )

  same_small : (digits : ℕ) (t : List ℕ) → HasSmall digits a b t → HasSmall digits c d t
  same_small digits t h = (
    h.0,
    record {
      many = h.1.many;
      fits = subst (λ x. x < 10 ^ digits) (same_scaled h.0) h.1.fits;
      most = λ k l. subst (λ x. 10 ^ digits ≤ x) (same_scaled k) (h.1.most k l);
    },
    h.2 ∙ ap (λ x. trimmed (digits - 1) x ++ (codes "e-" ++ exponent_text (h.0 - (digits - 1)))) (same_scaled h.0),
  )

  pub same_some : (digits : ℕ) (t : List ℕ) → HasDigits digits a b t ⊎ (HasLarge digits a b t ⊎ HasSmall digits a b t)
      → HasDigits digits c d t ⊎ (HasLarge digits c d t ⊎ HasSmall digits c d t)
  same_some digits t (inl h) = inl (same_digits digits t h)
  same_some digits t (inr (inl h)) = inr (inl (same_large digits t h))
  same_some digits t (inr (inr h)) = inr (inr (same_small digits t h))

none_some : (d c b : ℕ) → 0 < c * b → 0 * d ≡ c * b → ⊥
none_some d c b pos e = omega (arith, pos, sym (zero-mul d) ∙ e)

pub same_size : (a b c d : ℕ) → 0 < b → 0 < d → a * d ≡ c * b → (digits : ℕ) (t : List ℕ) → ShowsSize digits a b t → ShowsSize digits c d t
same_size zero b zero d bp dp same digits t h = h
same_size zero b (suc c) d bp dp same digits t h = absurd (none_some d (suc c) b (mul-pos (zero-lt-suc c) bp) same)
same_size (suc a) b zero d bp dp same digits t h = absurd (none_some b (suc a) d (mul-pos (zero-lt-suc a) dp) (sym same))
same_size (suc a) b (suc c) d bp dp same digits t h = same_some (suc a) b (suc c) d bp dp same digits t h

-- no size from so many digits on has one
pub too_large : (digits num den : ℕ) → 0 < den → 10 ^ digits * den ≤ num → (t : List ℕ) → HasDigits digits num den t → ⊥
too_large digits num den pos large t h =
    let more : num ≤ num * 10 ^ h.0 = subst (λ x. x ≤ num * 10 ^ h.0) (mul-one num) (mul-le-mul_left num (tens_pos h.0)) in
    let whole : 10 ^ digits ≤ num * 10 ^ h.0 / den = (le-div_iff_mul-le pos).1 (le_trans large more) in
    lt_irrefl _ (lt_of_lt_of_le h.1.fits (le_trans whole (nearest-ge _ _)))

-- nor has one that is 0 with four places more
pub too_small : (digits num den : ℕ) → num * 10 ^ (digits + 4) * 4 ≤ den → 0 < den → (t : List ℕ) → HasDigits digits num den t → ⊥
too_small digits num den small pos t h =
    let none : scaled num den (digits + 4) ≤ 0 = closest_mono (num * 10 ^ (digits + 4)) den 1 4 pos (omega arith) (omega (arith, small)) in
    omega (arith, tens_pos digits, h.1.most (digits + 4) (omega (arith, h.1.few)) (omega arith), none)

pub not_zero : (num up : ℕ) → num ≢ 0 → num * 2 ^ up ≢ 0
not_zero zero up h e = absurd (h refl)
not_zero (suc num) up h e = omega (arith, e, mul-pos (zero-lt-suc num) (pow_pos up))

-- a number moved up by so many binary places, and down by more
module _ (num up low digits : ℕ) (t : List ℕ) (some : num ≢ 0) (lower : up ≤ low) where
  same_fraction : num * 2 ^ up * 2 ^ (low - up) ≡ num * 2 ^ low
  same_fraction =
      let e : up + (low - up) ≡ low = omega arith in
      mul_assoc num (2 ^ up) (2 ^ (low - up)) ∙ ap (λ x. num * x) (sym (pow-add 2 up (low - up)) ∙ ap (λ x. 2 ^ x) e)

  pub moved_shows : HasDigits digits num (2 ^ (low - up)) t → ShowsSize digits (num * 2 ^ up) (2 ^ low) t
  moved_shows h =
      shows_some digits (num * 2 ^ up) (2 ^ low) t (not_zero num up some)
      (inl (same_digits num (2 ^ (low - up)) (num * 2 ^ up) (2 ^ low) (pow_pos (low - up)) (pow_pos low) (sym same_fraction) digits t h))

  pub moved_back : HasDigits digits (num * 2 ^ up) (2 ^ low) t → HasDigits digits num (2 ^ (low - up)) t
  moved_back h = same_digits (num * 2 ^ up) (2 ^ low) num (2 ^ (low - up)) (pow_pos low) (pow_pos (low - up)) same_fraction digits t h

pub moved_large : (num up low digits : ℕ) (t : List ℕ) → low ≤ up → 10 ^ digits ≤ num → HasDigits digits (num * 2 ^ up) (2 ^ low) t → ⊥
moved_large num up low digits t higher large h = too_large digits (num * 2 ^ up) (2 ^ low) (pow_pos low) (mul-le-mul large (pow_mono higher)) t h

pub moved_small : (num up low digits : ℕ) (t : List ℕ) → num ≢ 0 → num < 2 ^ 53 → digits ≤ 15 → 120 + up < low → HasDigits digits (num * 2 ^ up) (2 ^ low) t → ⊥
moved_small num up low digits t some below few far h =
    let least : 2 ^ 121 ≤ 2 ^ (low - up) = pow_mono {i = 121} {j = low - up} (omega (arith, far)) in
    let most : num * 10 ^ (digits + 4) < 2 ^ 118 = product_small num (digits + 4) below (omega (arith, few)) in
    too_small digits num (2 ^ (low - up)) (omega (arith, least, most)) (pow_pos (low - up)) t (moved_back num up low digits t some (omega arith) h)

pub zero_shows : (up den kept : ℕ) → ShowsSize kept (0 * 2 ^ up) den (decimal 0)
unfolding digits
zero_shows up den kept = subst (λ n. ShowsSize kept n den (decimal 0)) (sym (zero-mul (2 ^ up))) refl
