-- Which integer a decimal number is.
use Rattle.pgp_values.proofs.Common.{◌≡◌, ◌≢◌, ◌⊎◌, inl, inr, ℕ, zero, suc, ℤ, pos, negsuc, ◌+◌, ◌-◌, ◌*◌, ◌/◌, ◌%◌, ◌<◌, ◌≤◌, ◌^◌, Bool, true, false, List, [], ◌∷◌, ◌++◌, map, length, drop, set, get_or, refl, sym, ap, subst, ◌∙◌, arith, drop_of_length-le, w64, FitsSigned, Err, w128, mul_assoc, mul_comm, mul-le-mul, one-le-pow, pow-le-pow_right, div-add-mod, mod-lt, div-lt_iff_lt-mul, cases_lt, le-ltb, get_or_past, length-map, length-drop, length-set, append-nil, drop-set, pow-add, spelled, before_point, behind_by, Decimal, Numeric, finite, nan, plus_infinity, minus_infinity, IsDigits, IsDecimal, digit_value, reported_by, IsNumberOf, run, with_sign, IsMagnitude, IsInteger, IsIntegerOf, ReadsInteger, digit_in, whole_value, HasDigitFrom, IsValueOf}
use Rattle.pgp_values.specs.declared.integer.IntegerError.{IntegerError}
use Rattle.pgp_values.specs.declared.integer.IntegerError.TheVariants.{NotFinite, Fraction, OutOfRange}
use Rattle.pgp_values.proofs.AmountLemmas.{distrib, run_split, spelled_append, power_four}
use Rattle.pgp_values.proofs.GroupLemmas.{list_run, values_small}
use Rattle.pgp_values.proofs.OnceLemmas.{times_same}
use Rattle.pgp_values.proofs.Pairs.{small_at}
use Rattle.pgp_values.proofs.TextLemmas.{run_length}

-- Runs of digits to the base 10,000.

module _ (f : ℕ → ℕ) where
  cut_at : (m n : ℕ) → spelled 10000 (run f 0 (m + n)) ≡ spelled 10000 (run f 0 m) * 10000 ^ n + spelled 10000 (run f m n)
  cut_at m n =
      let at : 0 + m ≡ m = omega arith in
      ap (spelled 10000) (run_split f 0 m n) ∙ (spelled_append 10000 (run f 0 m) (run f (0 + m) n) ∙ rw (run_length f (0 + m) n, at) refl)

  zeros_spell : (from n : ℕ) → ((i : ℕ) → from ≤ i → f i ≡ 0) → spelled 10000 (run f from n) ≡ 0
  zeros_spell from zero h = refl
  zeros_spell from (suc n) h =
      let here : f from ≡ 0 = h from (omega arith) in
      let rest = zeros_spell (from + 1) n (λ i a. h i (omega arith)) in
      rw (here, rest) (omega arith)

  zeros_after : (m n : ℕ) → ((i : ℕ) → m ≤ i → f i ≡ 0) → spelled 10000 (run f 0 (m + n)) ≡ spelled 10000 (run f 0 m) * 10000 ^ n
  zeros_after m n h = cut_at m n ∙ (ap (λ k. spelled 10000 (run f 0 m) * 10000 ^ n + k) (zeros_spell m n h) ∙ omega arith)

  spells_less : (from n : ℕ) → ((i : ℕ) → f i < 10000) → spelled 10000 (run f from n) < 10000 ^ n
  spells_less from zero small = omega arith
  spells_less from (suc n) small =
      let rest = spells_less (from + 1) n small in
      let one : 1 + n ≡ suc n = omega arith in
      let s : 10000 ^ suc n ≡ 10000 * 10000 ^ n = ap (λ k. 10000 ^ k) (sym one) ∙ pow-add 10000 1 n in
      let count : f from * 10000 ^ length (run f (from + 1) n) ≡ f from * 10000 ^ n = ap (λ k. f from * 10000 ^ k) (run_length f (from + 1) n) in
      let room : (f from + 1) * 10000 ^ n ≤ 10000 * 10000 ^ n = mul-le-mul (omega (arith, small from)) (omega arith) in
      let spread : (f from + 1) * 10000 ^ n ≡ f from * 10000 ^ n + 10000 ^ n = omega arith in
      rw s (omega (arith, rest, count, room, spread))

  spells_some : (from n i : ℕ) → from ≤ i → i < from + n → f i ≢ 0 → 1 ≤ spelled 10000 (run f from n)
  spells_some from zero i a b some = absurd (omega arith)
  spells_some from (suc n) i a b some =
      let len = run_length f (from + 1) n in
      elim (cases_lt from i) [
        | inl later ↦ let rest = spells_some (from + 1) n i (omega arith) (omega arith) some in omega (arith, rest)
        | inr here ↦
            let at : i ≡ from = omega arith in
            let first : 1 ≤ f from = omega (arith, subst (λ (k : ℕ). f k ≢ 0) at some) in
            let power : 1 ≤ 10000 ^ length (run f (from + 1) n) = one-le-pow (length (run f (from + 1) n)) 10000 (omega arith) in
            let product : 1 * 1 ≤ f from * 10000 ^ length (run f (from + 1) n) = mul-le-mul first power in
            omega (arith, product)
      ]

  -- a run is at least each of its fronts
  front_least : (m n : ℕ) → m ≤ n → spelled 10000 (run f 0 m) ≤ spelled 10000 (run f 0 n)
  front_least m n h =
      let at : m + (n - m) ≡ n = omega arith in
      let all : spelled 10000 (run f 0 n) ≡ spelled 10000 (run f 0 m) * 10000 ^ (n - m) + spelled 10000 (run f m (n - m)) = ap (λ k. spelled 10000 (run f 0 k)) (sym at) ∙ cut_at m (n - m) in
      let more : spelled 10000 (run f 0 m) * 1 ≤ spelled 10000 (run f 0 m) * 10000 ^ (n - m) = mul-le-mul (omega arith) (one-le-pow (n - m) 10000 (omega arith)) in
      omega (arith, all, more)

-- The digits before the point.

none_before : (ds : List ℕ) → whole_value ds 0 ≡ 0
unfolding whole_value
none_before ds = refl

pub value_none : (ds : List ℕ) → 0 ≡ whole_value ds 0
value_none ds = sym (none_before ds)

pub value_next : (ds : List ℕ) (n : ℕ) → whole_value ds (n + 1) ≡ whole_value ds n * 10000 + get_or ds n 0
unfolding whole_value
value_next ds n =
    let e : 0 + n ≡ n = omega arith in
    cut_at (digit_in ds) n 1 ∙ omega arith

pub value_least : (ds : List ℕ) (m n : ℕ) → m ≤ n → whole_value ds m ≤ whole_value ds n
unfolding whole_value
value_least ds m n h = front_least (digit_in ds) m n h

past_all : (ds : List ℕ) (i : ℕ) → length ds ≤ i → digit_in ds i ≡ 0
past_all ds i h = get_or_past ds i 0 h

-- where the others are zeros, these digits are the number
all_before : (ds : List ℕ) (n : ℕ) → HasDigitFrom n ds false → spelled 10000 ds * 10000 ^ n ≡ whole_value ds n * 10000 ^ length ds
unfolding whole_value
all_before ds n none =
    let g = digit_in ds in
    let len = length ds in
    let e : n + len ≡ len + n = omega arith in
    ap (λ l. spelled 10000 l * 10000 ^ n) (sym (list_run ds))
    ∙ (sym (zeros_after g len n (past_all ds)) ∙ (ap (λ k. spelled 10000 (run g 0 k)) (sym e) ∙ zeros_after g n len none))

is_by : (w : ℤ) (ds : List ℕ) (n : ℕ) → 4 * n ≡ before_point w → HasDigitFrom n ds false → spelled 10000 ds * 10 ^ before_point w ≡ whole_value ds n * 10 ^ (4 * length ds + behind_by w)
is_by (pos k) ds n e none =
    let z : 4 * length ds + 0 ≡ 4 * length ds = omega arith in
    rw (z, ← e, power_four n, power_four (length ds)) (all_before ds n none)
is_by (negsuc j) ds n e none =
    let at : n ≡ 0 = omega (arith, e) in
    let nothing : whole_value ds n ≡ 0 = ap (whole_value ds) at ∙ none_before ds in
    let all : spelled 10000 ds * 10000 ^ 0 ≡ whole_value ds 0 * 10000 ^ length ds = all_before ds 0 (subst (λ (k : ℕ). HasDigitFrom k ds false) at none) in
    let is : spelled 10000 ds * 1 ≡ 0 = all ∙ (ap (λ v. v * 10000 ^ length ds) (none_before ds) ∙ omega arith) in
    rw nothing (omega (arith, is))

pub magnitude_is : (d : Decimal) (n : ℕ) → 4 * n ≡ before_point d.weight → HasDigitFrom n d.digits false → IsMagnitude d (whole_value d.digits n)
magnitude_is d n e none = is_by d.weight d.digits n e none

-- A digit after the point.

no_rest : (w r b m : ℕ) → 1 ≤ r → r < b → w * b + r ≡ m * b → ⊥
no_rest w r b m some less e =
    elim (cases_lt w m) [
      | inl more ↦
          let spread : (w + 1) * b ≡ w * b + b = omega arith in
          let next : (w + 1) * b ≤ m * b = mul-le-mul (omega arith) (omega arith) in
          omega (arith, spread, next)
      | inr most ↦ let least : m * b ≤ w * b = mul-le-mul most (omega arith) in omega (arith, least)
    ]

inside : (ds : List ℕ) (i : ℕ) → digit_in ds i ≢ 0 → i < length ds
inside ds i some = elim (cases_lt i (length ds)) [
  | inl less ↦ less
  | inr past ↦ absurd (some (past_all ds i past))
]

no_by : (w : ℤ) (ds : List ℕ) (n : ℕ) → IsDigits ds → 4 * n ≡ before_point w → HasDigitFrom n ds true → (m : ℕ) → spelled 10000 ds * 10 ^ before_point w ≡ m * 10 ^ (4 * length ds + behind_by w) → ⊥
no_by (pos k) ds n small e (i, from, some) m same =
    let g = digit_in ds in
    let within = inside ds i some in
    let r = length ds - n in
    let at : n + r ≡ length ds = omega arith in
    let z : 4 * length ds + 0 ≡ 4 * length ds = omega arith in
    let cut : spelled 10000 ds ≡ spelled 10000 (run g 0 n) * 10000 ^ r + spelled 10000 (run g n r) = ap (spelled 10000) (sym (list_run ds)) ∙ (ap (λ k. spelled 10000 (run g 0 k)) (sym at) ∙ cut_at g n r) in
    let power : 10000 ^ length ds ≡ 10000 ^ r * 10000 ^ n = ap (λ k. 10000 ^ k) (sym at) ∙ (pow-add 10000 n r ∙ mul_comm (10000 ^ n) (10000 ^ r)) in
    let all : spelled 10000 ds * 10000 ^ n ≡ m * 10000 ^ length ds = (rw (z, ← e, power_four n, power_four (length ds)) at same) in
    let both : spelled 10000 ds ≡ m * 10000 ^ r = times_same (spelled 10000 ds) (m * 10000 ^ r) (10000 ^ n) (one-le-pow n 10000 (omega arith)) (all ∙ (ap (λ p. m * p) power ∙ sym (mul_assoc m (10000 ^ r) (10000 ^ n)))) in
    no_rest (spelled 10000 (run g 0 n)) (spelled 10000 (run g n r)) (10000 ^ r) m (spells_some g n r i from (omega arith) some) (spells_less g n r (λ j. small_at ds j small)) (sym cut ∙ both)
no_by (negsuc j) ds n small e (i, from, some) m same =
    let g = digit_in ds in
    let within = inside ds i some in
    let least : 1 ≤ spelled 10000 ds = subst (λ (l : List ℕ). 1 ≤ spelled 10000 l) (list_run ds) (spells_some g 0 (length ds) i (omega arith) (omega arith) some) in
    let most : spelled 10000 ds < 10 ^ (4 * length ds) = rw (power_four (length ds)) (subst (λ (l : List ℕ). spelled 10000 l < 10000 ^ length ds) (list_run ds) (spells_less g 0 (length ds) (λ j. small_at ds j small))) in
    let up : 10 ^ (4 * length ds) ≤ 10 ^ (4 * length ds + 4 * j) = pow-le-pow_right (omega arith) (omega arith) in
    no_rest 0 (spelled 10000 ds) (10 ^ (4 * length ds + 4 * j)) m least (omega (arith, most, up)) (omega (arith, same))

pub no_integer : (d : Decimal) (n : ℕ) → IsDigits d.digits → 4 * n ≡ before_point d.weight → HasDigitFrom n d.digits true → (z : ℤ) → IsInteger d z → ⊥
no_integer d n small e some z i = no_by d.weight d.digits n small e some i.magnitude i.same

-- One integer.

pub one_integer : (d : Decimal) (x y : ℤ) → IsInteger d x → IsInteger d y → x ≡ y
one_integer d x y a b =
    let power : 1 ≤ 10 ^ (4 * length d.digits + behind_by d.weight) = one-le-pow (4 * length d.digits + behind_by d.weight) 10 (omega arith) in
    let same : a.magnitude ≡ b.magnitude = times_same a.magnitude b.magnitude (10 ^ (4 * length d.digits + behind_by d.weight)) power (sym a.same ∙ b.same) in
    a.signed ∙ (ap (with_sign d.negative) same ∙ sym b.signed)

-- Which types hold it.

pub signed_small : (negative : Bool) (m : ℕ) → FitsSigned w128 (with_sign negative m) → m < 2 ^ 128
signed_small false m f = omega (arith, f.sfits)
signed_small true zero f = omega arith
signed_small true (suc m) f = omega (arith, f.sfits)

wider : (z : ℤ) → FitsSigned w64 z → FitsSigned w128 z
wider (pos n) f = record { sfits = omega (arith, f.sfits) }
wider (negsuc n) f = record { sfits = omega (arith, f.sfits) }

pub narrowed : (v : Numeric) (e : IntegerError) → ReadsInteger (FitsSigned w128) v (Err e) → ReadsInteger (FitsSigned w64) v (Err e)
narrowed (finite d) NotFinite r = r
narrowed (finite d) Fraction r = r
narrowed (finite d) OutOfRange r = (r.0, r.1, λ f. r.2 (wider r.0 f))
narrowed nan e r = r
narrowed plus_infinity e r = r
narrowed minus_infinity e r = r

-- Integers written.

sign_either : (negative shown : Bool) (m : ℕ) → (shown ≡ negative) ⊎ ((m ≡ 0) × (shown ≡ false)) → with_sign negative m ≡ with_sign shown m
sign_either negative shown m (inl e) = ap (λ b. with_sign b m) (sym e)
sign_either false shown m (inr z) = ap (λ b. with_sign b m) (sym z.1)
sign_either true shown m (inr z) = rw (z.0, z.1) refl

module _ (negative : Bool) (whole : List ℕ) where
  abbrev amount : ℕ
  amount = spelled 10 (map digit_value whole)

  all_digits : spelled 10 (map digit_value (whole ++ [])) ≡ amount
  all_digits = ap (λ l. spelled 10 (map digit_value l)) (append-nil whole)

  pub whole_meant : (d : Decimal) → IsValueOf (reported_by negative whole [] false 0) d → IsIntegerOf (with_sign negative amount) d
  whole_meant d v =
      let point : before_point d.weight + 0 + 0 ≡ before_point d.weight = omega arith in
      let behind : 4 * length d.digits + (behind_by d.weight + 0) ≡ 4 * length d.digits + behind_by d.weight = omega arith in
      let same : spelled 10000 d.digits * 10 ^ before_point d.weight ≡ amount * 10 ^ (4 * length d.digits + behind_by d.weight) =
      ap (λ k. spelled 10000 d.digits * 10 ^ k) (sym point) ∙ (v.means.same ∙ (ap (λ k. spelled 10 (map digit_value (whole ++ [])) * 10 ^ k) behind ∙ ap (λ m. m * 10 ^ (4 * length d.digits + behind_by d.weight)) all_digits)) in
      let sign : (d.negative ≡ negative) ⊎ ((amount ≡ 0) × (d.negative ≡ false)) = elim v.means.sign [
        | inl e ↦ inl e
        | inr z ↦ inr (sym all_digits ∙ z.0, z.1)
      ] in
      record {
        means = record { magnitude = amount; same = same; signed = sign_either negative d.negative amount sign };
        scale = v.means.scale;
        fits = v.fits;
        canonical = v.canonical;
      }

-- so many digits to the base 10,000 of a number
abbrev digits_to : ℕ → ℕ → List ℕ
digits_to zero n = []
digits_to (suc k) n = n / 10000 ^ k ∷ digits_to k (n % 10000 ^ k)

digits_count : (k n : ℕ) → length (digits_to k n) ≡ k
digits_count zero n = refl
digits_count (suc k) n = ap suc (digits_count k (n % 10000 ^ k))

power_some : (k : ℕ) → 1 ≤ 10000 ^ k
power_some k = one-le-pow k 10000 (omega arith)

digits_spell : (k n : ℕ) → n < 10000 ^ k → spelled 10000 (digits_to k n) ≡ n
digits_spell zero n h = omega arith
digits_spell (suc k) n h =
    let b = 10000 ^ k in
    let rest = digits_spell k (n % b) (mod-lt n (power_some k)) in
    ap (λ j. n / b * 10000 ^ j + spelled 10000 (digits_to k (n % b))) (digits_count k (n % b)) ∙ (ap (λ r. n / b * b + r) rest ∙ (ap (λ p. p + n % b) (mul_comm (n / b) b) ∙ div-add-mod n b))

digits_are : (k n : ℕ) → n < 10000 ^ k → IsDigits (digits_to k n)
digits_are zero n h = tt
digits_are (suc k) n h =
    let b = 10000 ^ k in
    let one : 1 + k ≡ suc k = omega arith in
    let power : 10000 ^ suc k ≡ 10000 * b = ap (λ j. 10000 ^ j) (sym one) ∙ pow-add 10000 1 k in
    ((div-lt_iff_lt-mul (power_some k)).1 (omega (arith, h, power)), digits_are k (n % b) (mod-lt n (power_some k)))

amount_small : (ds : List ℕ) → ((i : ℕ) → get_or ds i 0 < 10) → spelled 10 ds < 10 ^ length ds
amount_small [] small = omega arith
amount_small (d ∷ ds) small =
    let rest = amount_small ds (λ i. small (suc i)) in
    let one : 1 + length ds ≡ suc (length ds) = omega arith in
    let s : 10 ^ suc (length ds) ≡ 10 * 10 ^ length ds = ap (λ k. 10 ^ k) (sym one) ∙ pow-add 10 1 (length ds) in
    let room : (d + 1) * 10 ^ length ds ≤ 10 * 10 ^ length ds = mul-le-mul (omega (arith, small zero)) (omega arith) in
    let spread : (d + 1) * 10 ^ length ds ≡ d * 10 ^ length ds + 10 ^ length ds = omega arith in
    rw s (omega (arith, rest, room, spread))

-- a numeric holds each number of so few digits
pub held_by : (negative : Bool) (whole : List ℕ) → length whole ≤ 39 → ((d : Decimal) → IsDecimal d → IsNumberOf (reported_by negative whole [] false 0) d → ⊥) → ⊥
held_by negative whole few none =
    let m = amount negative whole in
    let len : length (map digit_value whole) ≡ length whole = length-map whole digit_value in
    let less : m < 10 ^ length whole = subst (λ (k : ℕ). m < 10 ^ k) len (amount_small (map digit_value whole) (values_small whole)) in
    let up : 10 ^ length whole ≤ 10 ^ 39 = pow-le-pow_right (omega arith) few in
    let small : m < 10000 ^ 10 = omega (arith, less, up) in
    let ds = digits_to 10 m in
    let d : Decimal = record { negative = negative; weight = pos 9; scale = 0; digits = ds } in
    let count : length ds ≡ 10 = digits_count 10 m in
    let all : spelled 10 (map digit_value (whole ++ [])) ≡ m = all_digits negative whole in
    none d
    (record { weight = record { sfits = omega arith }; scale = omega arith; count = omega (arith, count); digits = digits_are 10 m small })
    (record { same = rw (digits_spell 10 m small, count, all) refl; scale = refl; sign = inl refl })

-- Decimal digits that are put before others.

back_digit : (k : ℕ) → k < 10 → digit_value (48 + k) ≡ k
back_digit k h = rw (le-ltb (48 + k) 48 (omega arith), le-ltb 57 (48 + k) (omega arith)) (omega arith)

pub record Stands (digits : List ℕ) (at rest n : ℕ) : Type 0 where
  pub inside : at ≤ 39
  pub len : length digits ≡ 39
  pub small : n < 10 ^ 39
  pub same : spelled 10 (map digit_value (drop at digits)) + rest * 10 ^ (39 - at) ≡ n

pub none_stands : (digits : List ℕ) (n : ℕ) → length digits ≡ 39 → n < 2 ^ 128 → Stands digits 39 n n
none_stands digits n len small = record {
  inside = omega arith;
  len = len;
  small = omega (arith, small);
  same = ap (λ l. spelled 10 (map digit_value l) + n * 1) (drop_of_length-le digits {i = 39} (omega (arith, len))) ∙ omega arith;
}

at_least_once : (k p : ℕ) → 1 ≤ k → p ≤ k * p
at_least_once k p one = let m : 1 * p ≤ k * p = mul-le-mul one (omega arith) in omega (arith, m)

pub room_left : (digits : List ℕ) (at rest n : ℕ) → Stands digits at rest n → rest ≢ 0 → 1 ≤ at
room_left digits zero rest n s some =
    let one : 1 ≤ rest = omega (arith, some) in
    let least = at_least_once rest (10 ^ 39) one in
    absurd (omega (arith, s.small, s.same, least))
room_left digits (suc at) rest n s some = omega arith

pub one_more : (digits : List ℕ) (at rest n : ℕ) → Stands digits at rest n → rest ≢ 0 → Stands (set digits (at - 1) (48 + rest % 10)) (at - 1) (rest / 10) n
one_more digits at rest n s some =
    let room = room_left digits at rest n s some in
    let p = 10 ^ (39 - at) in
    let ds = map digit_value (drop at digits) in
    let next : at - 1 + 1 ≡ at = omega (arith, room) in
    let put : drop (at - 1) (set digits (at - 1) (48 + rest % 10)) ≡ (48 + rest % 10) ∷ drop at digits =
    drop-set digits (at - 1) (48 + rest % 10) (omega (arith, s.len, s.inside, room)) ∙ ap (λ k. (48 + rest % 10) ∷ drop k digits) next in
    let len : length ds ≡ 39 - at = length-map (drop at digits) digit_value ∙ (length-drop at digits ∙ omega (arith, s.len)) in
    let digit : digit_value (48 + rest % 10) ≡ rest % 10 = back_digit (rest % 10) (omega arith) in
    let up : 39 - (at - 1) ≡ 1 + (39 - at) = omega (arith, s.inside, room) in
    let power : 10 ^ (39 - (at - 1)) ≡ 10 * p = ap (λ k. 10 ^ k) up ∙ pow-add 10 1 (39 - at) in
    let tens : rest / 10 * (10 * p) ≡ rest / 10 * 10 * p = sym (mul_assoc (rest / 10) 10 p) in
    let whole : rest / 10 * 10 + rest % 10 ≡ rest = omega arith in
    let both : rest * p ≡ rest / 10 * 10 * p + rest % 10 * p = ap (λ k. k * p) (sym whole) ∙ distrib (rest / 10 * 10) (rest % 10) p in
    record {
      inside = omega (arith, s.inside);
      len = length-set digits (at - 1) (48 + rest % 10) ∙ s.len;
      small = s.small;
      same = rw (put, digit, len, power, tens) (omega (arith, s.same, both));
    }

pub integer_is : (d : Decimal) (n : ℕ) → 4 * n ≡ before_point d.weight → HasDigitFrom n d.digits false → IsInteger d (with_sign d.negative (whole_value d.digits n))
integer_is d n e none = record { magnitude = whole_value d.digits n; same = magnitude_is d n e none; signed = refl }

pub past_all_types : (negative : Bool) (m : ℕ) → (m < 2 ^ 128 → ⊥) → FitsSigned w128 (with_sign negative m) → ⊥
past_all_types negative m h f = h (signed_small negative m f)

pub sign_as : (b c : Bool) (m n : ℕ) → b ≡ c → m ≡ n → with_sign b m ≡ with_sign c n
sign_as b c m n e h = ap (λ x. with_sign x m) e ∙ ap (with_sign c) h
