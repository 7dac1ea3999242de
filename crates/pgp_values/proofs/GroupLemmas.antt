-- What is written of a number that a text says is the same number, and where there is none, no numeric is.
use Rattle.pgp_values.proofs.Common.{◌≡◌, ◌≢◌, ◌⊎◌, inl, inr, ℕ, zero, suc, ℤ, pos, negsuc, ◌+◌, ◌-◌, ◌*◌, ◌/◌, ◌<◌, ◌≤◌, ◌^◌, Bool, true, false, cond, ltb, List, [], ◌∷◌, ◌++◌, length, map, take, drop, get_or, add-one, refl, sym, ap, ◌∙◌, arith, FitsSigned, w16, length-append, append_assoc, mul_assoc, pow-le-pow_right, one-le-pow, mul-le-mul, mul-lt-mul_of_pos_right, take-suc, lt-ltb, le-ltb, ltb-false, cases_order, cases_lt, get_or_past, length-map, map-append, take-append-drop, pow-add, cast_unsigned, int16, uint16, length-uint16, int16_spelled, spelled, before_point, behind_by, Decimal, laid_out, IsDecimal, IsDigits, HasNoZeroEnds, last_of, run, Reported, reported_by, places_of, raised, lowered, digit_value, IsNumberOf, power_digit, group_value, group_down, IsWeight, IsPastWeights, NoneFrom, NoneTo, IsValueOf}
use Rattle.pgp_values.proofs.AmountLemmas.{run_split, run_shift, spelled_append, spelled_more, spelled_behind, spelled_zeros, power_four}
use Rattle.pgp_values.proofs.TextLemmas.{run_length}

-- groups of four decimal digits

abbrev pub four_of : (ℕ → ℕ) → ℕ → ℕ
four_of g i = 1000 * g (4 * i) + 100 * g (4 * i + 1) + 10 * g (4 * i + 2) + g (4 * i + 3)

four_spell : (g : ℕ → ℕ) (x : ℕ) → spelled 10 (run g x 4) ≡ 1000 * g x + 100 * g (x + 1) + 10 * g (x + 2) + g (x + 3)
four_spell g x =
    let two : x + 1 + 1 ≡ x + 2 = omega arith in
    let three : x + 2 + 1 ≡ x + 3 = omega arith in
    rw (two, three) (omega arith)

groups_spell_from : (g : ℕ → ℕ) (from at n : ℕ) → at ≡ 4 * from → spelled 10000 (run (four_of g) from n) ≡ spelled 10 (run g at (4 * n))
groups_spell_from g from at zero e = refl
groups_spell_from g from at (suc n) e =
    let s : 4 * suc n ≡ 4 + 4 * n = omega arith in
    let next : at + 4 ≡ 4 * (from + 1) = omega arith in
    let one : four_of g from ≡ spelled 10 (run g at 4) = rw e (sym (four_spell g (4 * from))) in
    sym (ap (λ k. spelled 10 (run g at k)) s
    ∙ (ap (spelled 10) (run_split g at 4 (4 * n)) ∙ (spelled_append 10 (run g at 4) (run g (at + 4) (4 * n)) ∙ rw (run_length g (at + 4) (4 * n), power_four n, run_length (four_of g) (from + 1) n, one, groups_spell_from g (from + 1) (at + 4) n next) refl)))

-- one number by two runs, each with zeros after it
both_runs : (g : ℕ → ℕ) (m n : ℕ) → ((i : ℕ) → m ≤ i → g i ≡ 0) → ((i : ℕ) → n ≤ i → g i ≡ 0) → spelled 10 (run g 0 m) * 10 ^ n ≡ spelled 10 (run g 0 n) * 10 ^ m
both_runs g m n a b =
    let e : m + n ≡ n + m = omega arith in
    sym (spelled_more g m n a) ∙ (ap (λ k. spelled 10 (run g 0 k)) e ∙ spelled_more g n m b)

-- a list's digits as a run
pub list_run : (ds : List ℕ) → run (λ i. get_or ds i 0) 0 (length ds) ≡ ds
list_run [] = refl
list_run (d ∷ ds) = ap (λ l. d ∷ l) (run_shift (λ i. get_or (d ∷ ds) i 0) (λ i. get_or ds i 0) 1 0 (0 + 1) (length ds) refl (λ i. let s : 1 + i ≡ suc i = omega arith in rw s refl) ∙ list_run ds)

-- the digit at a place, from the first of the first group on, where the first group is this power of 10,000
abbrev pub place_of : List ℕ → ℕ → ℕ → ℕ → ℕ
place_of ds point top x = cond (ltb (x + point) (4 * top + 4)) 0 (get_or ds (x + point - (4 * top + 4)) 0)

module _ (ds : List ℕ) (point top : ℕ) where
  before_none : (x : ℕ) → x + point < 4 * top + 4 → place_of ds point top x ≡ 0
  before_none x h = rw (lt-ltb (x + point) (4 * top + 4) h) refl

  at_digit : (x i : ℕ) → x + point ≡ i + (4 * top + 4) → place_of ds point top x ≡ get_or ds i 0
  at_digit x i e =
      let past : ltb (x + point) (4 * top + 4) ≡ false = le-ltb (x + point) (4 * top + 4) (omega arith) in
      let at : x + point - (4 * top + 4) ≡ i = omega arith in
      rw (past, at) refl

  power_place : (x power : ℕ) → x + power ≡ 4 * top + 3 → power_digit ds point power ≡ place_of ds point top x
  power_place x power e = elim (cases_order power point) [
    | inl same ↦
        let not : ltb power point ≡ false = le-ltb power point (omega arith) in
        rw not (sym (before_none x (omega arith)))
    | inr other ↦ elim other [
      | inl less ↦
          let i : x + point ≡ (point - 1 - power) + (4 * top + 4) = omega arith in
          rw (lt-ltb power point less) (sym (at_digit x (point - 1 - power) i))
      | inr more ↦
          let not : ltb power point ≡ false = le-ltb power point (omega arith) in
          rw not (sym (before_none x (omega arith)))
    ]
  ]

  group_is : (i : ℕ) → i ≤ top → group_down ds point top i ≡ four_of (place_of ds point top) i
  group_is i le =
      let a = power_place (4 * i) (4 * (top - i) + 3) (omega arith) in
      let b = power_place (4 * i + 1) (4 * (top - i) + 2) (omega arith) in
      let e = power_place (4 * i + 2) (4 * (top - i) + 1) (omega arith) in
      let f = power_place (4 * i + 3) (4 * (top - i)) (omega arith) in
      rw (a, b, e, f) refl

  groups_are : (from n : ℕ) → from + n ≤ top + 1 → run (group_down ds point top) from n ≡ run (four_of (place_of ds point top)) from n
  groups_are from zero h = refl
  groups_are from (suc n) h =
      let here : from ≤ top = omega arith in
      ap (λ x. x ∷ run (group_down ds point top) (from + 1) n) (group_is from here) ∙ ap (λ l. four_of (place_of ds point top) from ∷ l) (groups_are (from + 1) n (omega arith))

  -- The digits are so many places, of which the last are zeros.
  module _ (first last n : ℕ) (inside : last < length ds) (order : first ≤ last) (none_to : NoneTo first ds) (none_from : NoneFrom last ds) (bound : length ds < point)
      (top_is : top ≡ (point - 1 - first) / 4) (n_is : n ≡ top - (point - 1 - last) / 4 + 1) where
    width : ℕ
    width = length ds + (4 * top + 4) - point

    past_length : (i : ℕ) → length ds + (4 * top + 4) - point ≤ i → place_of ds point top i ≡ 0
    past_length i le =
        let k = i + point - (4 * top + 4) in
        let e : i + point ≡ k + (4 * top + 4) = omega arith in
        let past : length ds ≤ k = omega arith in
        at_digit i k e ∙ get_or_past ds k 0 past

    past_groups : (i : ℕ) → 4 * n ≤ i → place_of ds point top i ≡ 0
    past_groups i le =
        let k = i + point - (4 * top + 4) in
        let e : i + point ≡ k + (4 * top + 4) = omega arith in
        let past : last < k = omega arith in
        at_digit i k e ∙ none_from k past

    all_digits : spelled 10 (run (place_of ds point top) 0 (length ds + (4 * top + 4) - point)) ≡ spelled 10 ds
    all_digits = elim (cases_order point (4 * top + 4)) [
      | inl same ↦
          let size : length ds + (4 * top + 4) - point ≡ length ds = omega arith in
          rw size (ap (spelled 10) (run_shift (place_of ds point top) (λ i. get_or ds i 0) 0 0 0 (length ds) refl (λ i. at_digit (0 + i) i (omega arith)) ∙ list_run ds))
      | inr other ↦ elim other [
        | inl less ↦
            let zeros = 4 * top + 4 - point in
            let size : length ds + (4 * top + 4) - point ≡ zeros + length ds = omega arith in
            let shift : run (place_of ds point top) zeros (length ds) ≡ run (λ i. get_or ds i 0) 0 (length ds) = run_shift (place_of ds point top) (λ i. get_or ds i 0) zeros 0 zeros (length ds) (omega arith) (λ i. at_digit (zeros + i) i (omega arith)) in
            rw size (spelled_behind (place_of ds point top) zeros (length ds) (λ i h. before_none i (omega arith)) ∙ ap (spelled 10) (shift ∙ list_run ds))
        | inr more ↦
            let skip = point - (4 * top + 4) in
            let left = length ds + (4 * top + 4) - point in
            let few : skip ≤ first = omega arith in
            let size : length ds ≡ skip + left = omega arith in
            let shift : run (λ i. get_or ds i 0) skip left ≡ run (place_of ds point top) 0 left = run_shift (λ i. get_or ds i 0) (place_of ds point top) skip 0 skip left (omega arith) (λ i. sym (at_digit i (skip + i) (omega arith))) in
            sym (ap (spelled 10) (sym (list_run ds)) ∙ (ap (λ k. spelled 10 (run (λ i. get_or ds i 0) 0 k)) size ∙ (spelled_behind (λ i. get_or ds i 0) skip left (λ k h. none_to k (omega arith)) ∙ ap (spelled 10) shift)))
      ]
    ]

    pub groups_tell : spelled 10000 (run (group_down ds point top) 0 n) * 10 ^ (length ds + (4 * top + 4) - point) ≡ spelled 10 ds * 10 ^ (4 * n)
    groups_tell =
        let g = place_of ds point top in
        let m = length ds + (4 * top + 4) - point in
        let groups : spelled 10000 (run (group_down ds point top) 0 n) ≡ spelled 10 (run g 0 (4 * n)) = ap (spelled 10000) (groups_are 0 n (omega arith)) ∙ groups_spell_from g 0 0 n (omega arith) in
        ap (λ s. s * 10 ^ m) groups ∙ (both_runs g (4 * n) m past_groups past_length ∙ ap (λ s. s * 10 ^ (4 * n)) all_digits)

-- more zeros on both sides
pub raise : (a b m n y p q : ℕ) → a * 10 ^ m ≡ b * 10 ^ n → p ≡ m + y → q ≡ n + y → a * 10 ^ p ≡ b * 10 ^ q
raise a b m n y p q e f h =
    let left : a * 10 ^ p ≡ a * 10 ^ m * 10 ^ y = ap (λ k. a * 10 ^ k) f ∙ (ap (λ x. a * x) (pow-add 10 m y) ∙ sym (mul_assoc a (10 ^ m) (10 ^ y))) in
    let right : b * 10 ^ q ≡ b * 10 ^ n * 10 ^ y = ap (λ k. b * 10 ^ k) h ∙ (ap (λ x. b * x) (pow-add 10 n y) ∙ sym (mul_assoc b (10 ^ n) (10 ^ y))) in
    left ∙ (ap (λ x. x * 10 ^ y) e ∙ sym right)

-- the exponents of both sides
exponents_by : (z : ℤ) (top len point whole places r l : ℕ) → IsWeight z top → len ≡ whole + places → point + l ≡ 2 ^ 31 + whole + r → point ≤ len + (4 * top + 4)
    → before_point z + places + l ≡ len + (4 * top + 4) - point + (behind_by z + r)
exponents_by (pos k) top len point whole places r l is e f h = omega arith
exponents_by (negsuc j) top len point whole places r l is e f h = omega arith

pub weight_fits : (z : ℤ) (group : ℕ) → IsWeight z group → FitsSigned w16 z
weight_fits (pos k) group is = record { sfits = omega (arith, is.1) }
weight_fits (negsuc j) group is = record { sfits = omega (arith, is.1) }

-- digits that letters count

value_by : (b : ℕ) (x y : Bool) → ltb b 48 ≡ x → ltb 57 b ≡ y → cond x 0 (cond y 0 (b - 48)) < 10
value_by b true y e f = omega arith
value_by b false true e f = omega arith
value_by b false false e f = omega (arith, ltb-false b 48 e, ltb-false 57 b f)

value_small : (b : ℕ) → digit_value b < 10
value_small b = value_by b (ltb b 48) (ltb 57 b) refl refl

pub values_small : (bs : List ℕ) (i : ℕ) → get_or (map digit_value bs) i 0 < 10
values_small [] i = omega arith
values_small (b ∷ bs) zero = value_small b
values_small (b ∷ bs) (suc i) = values_small bs i

module _ (ds : List ℕ) (small : (i : ℕ) → get_or ds i 0 < 10) (point top : ℕ) where
  power_by : (power : ℕ) (x : Bool) → cond x (get_or ds (point - 1 - power) 0) 0 < 10
  power_by power true = small (point - 1 - power)
  power_by power false = omega arith

  group_small : (g : ℕ) → group_value ds point g < 10000
  group_small g = omega (arith, power_by (4 * g + 3) (ltb (4 * g + 3) point), power_by (4 * g + 2) (ltb (4 * g + 2) point), power_by (4 * g + 1) (ltb (4 * g + 1) point), power_by (4 * g) (ltb (4 * g) point))

  pub groups_digits : (from n : ℕ) → IsDigits (run (group_down ds point top) from n)
  groups_digits from zero = tt
  groups_digits from (suc n) = (group_small (top - from), groups_digits (from + 1) n)

-- the ends of what is written

last_run : (f : ℕ → ℕ) (from n : ℕ) → last_of (f from) (run f (from + 1) n) ≡ f (from + n)
last_run f from zero = let e : from ≡ from + 0 = omega arith in ap f e
last_run f from (suc n) =
    let e : from + 1 + n ≡ from + suc n = omega arith in
    last_run f (from + 1) n ∙ ap f e

ends_run : (f : ℕ → ℕ) (n : ℕ) → 1 ≤ n → f 0 ≢ 0 → f (n - 1) ≢ 0 → HasNoZeroEnds (run f 0 n)
ends_run f zero some a b = absurd (omega arith)
ends_run f (suc n) some a b =
    let e : 0 + n ≡ suc n - 1 = omega arith in
    (a, λ z. b (ap f (sym e) ∙ (sym (last_run f 0 n) ∙ z)))

no_run : (f : ℕ → ℕ) (n : ℕ) → 1 ≤ n → run f 0 n ≢ []
no_run f n some e = let l = ap length e in omega (arith, run_length f 0 n, l)

group_top : (power g : ℕ) → 4 * g ≤ power → power ≤ 4 * g + 3 → (power < 4 * g) ⊎ (4 * g < power) → (power < 4 * g + 1) ⊎ (4 * g + 1 < power) → (power < 4 * g + 2) ⊎ (4 * g + 2 < power) → power ≡ 4 * g + 3
group_top power g low high (inl a) b c = absurd (omega arith)
group_top power g low high (inr a) (inl b) c = absurd (omega arith)
group_top power g low high (inr a) (inr b) (inl c) = absurd (omega arith)
group_top power g low high (inr a) (inr b) (inr c) = omega arith

group_some : (ds : List ℕ) (point g power : ℕ) → 4 * g ≤ power → power ≤ 4 * g + 3 → power_digit ds point power ≢ 0 → group_value ds point g ≢ 0
group_some ds point g power low high some z = elim (cases_order power (4 * g)) [
  | inl e ↦ some (ap (power_digit ds point) e ∙ (omega (arith, z)))
  | inr more ↦ elim (cases_order power (4 * g + 1)) [
    | inl e ↦ some (ap (power_digit ds point) e ∙ (omega (arith, z)))
    | inr other ↦ elim (cases_order power (4 * g + 2)) [
      | inl e ↦ some (ap (power_digit ds point) e ∙ (omega (arith, z)))
      | inr last ↦
          let e : power ≡ 4 * g + 3 = group_top power g low high more other last in
          some (ap (power_digit ds point) e ∙ (omega (arith, z)))
    ]
  ]
]

power_at : (ds : List ℕ) (point i : ℕ) → i < point → power_digit ds point (point - 1 - i) ≡ get_or ds i 0
power_at ds point i lt =
    let less : point - 1 - i < point = omega arith in
    let at : point - 1 - (point - 1 - i) ≡ i = omega arith in
    rw (lt-ltb (point - 1 - i) point less, at) refl

-- What is written is the number.
module _ (negative : Bool) (whole fraction : List ℕ) (divided : Bool) (exponent : ℕ) (weight : ℤ) (scale : ℕ) (shown : scale ≡ places_of (reported_by negative whole fraction divided exponent)) (fits : scale ≤ 16383) (small : exponent < 1073741823) where
  abbrev reported : Reported
  reported = reported_by negative whole fraction divided exponent

  abbrev values : List ℕ
  values = map digit_value (whole ++ fraction)

  sizes : length values ≡ length whole + length fraction
  sizes = length-map (whole ++ fraction) digit_value ∙ length-append whole fraction

  module _ (first last n point top : ℕ) (inside : last < length whole + length fraction) (order : first ≤ last) (none_to : NoneTo first values) (none_from : NoneFrom last values)
      (some_first : get_or values first 0 ≢ 0) (some_last : get_or values last 0 ≢ 0)
      (few : length whole + length fraction < point) (top_is : top ≡ (point - 1 - first) / 4) (n_is : n ≡ top - (point - 1 - last) / 4 + 1) (count : n < 2 ^ 16)
      (point_is : point + lowered divided exponent ≡ 2 ^ 31 + length whole + raised divided exponent) (is_weight : IsWeight weight top) where
    abbrev digits : List ℕ
    digits = run (group_down values point top) 0 n

    digits_count : length digits ≡ n
    digits_count = run_length (group_down values point top) 0 n

    abbrev number : Decimal
    number = record { negative = negative; weight = weight; scale = scale; digits = digits }

    same : spelled 10000 digits * 10 ^ (before_point weight + length fraction + lowered divided exponent) ≡ spelled 10 values * 10 ^ (4 * length digits + (behind_by weight + raised divided exponent))
    same =
        let tell = groups_tell values point top first last n (omega (arith, sizes)) order none_to none_from (omega (arith, sizes)) top_is n_is in
        let reach : point ≤ length values + (4 * top + 4) = omega (arith, sizes) in
        let p = exponents_by weight top (length values) point (length whole) (length fraction) (raised divided exponent) (lowered divided exponent) is_weight sizes point_is reach in
        let q : 4 * length digits + (behind_by weight + raised divided exponent) ≡ 4 * n + (behind_by weight + raised divided exponent) = ap (λ k. 4 * k + (behind_by weight + raised divided exponent)) digits_count in
        raise (spelled 10000 digits) (spelled 10 values) (length values + (4 * top + 4) - point) (4 * n) (behind_by weight + raised divided exponent) _ _ tell p q

    first_some : group_down values point top 0 ≢ 0
    first_some = group_some values point (top - 0) (point - 1 - first) (omega arith) (omega arith) (λ z. some_first (sym (power_at values point first (omega arith)) ∙ z))

    last_some : group_down values point top (n - 1) ≢ 0
    last_some = group_some values point (top - (n - 1)) (point - 1 - last) (omega arith) (omega arith) (λ z. some_last (sym (power_at values point last (omega arith)) ∙ z))

    pub number_value : IsValueOf reported number
    number_value = record {
      fits = record { weight = weight_fits weight top is_weight; scale = fits; count = rw digits_count count; digits = groups_digits values (values_small (whole ++ fraction)) point top 0 n };
      means = record { same = same; scale = shown; sign = inl refl };
      canonical = record { ends = ends_run (group_down values point top) n (omega arith) first_some last_some; zero = λ none. absurd (no_run (group_down values point top) n (omega arith) none) };
      small = small;
    }

  pub zero_value : NoneTo (length values) values → weight ≡ pos 0 → IsValueOf reported (record { negative = false; weight = weight; scale = scale; digits = [] })
  zero_value none at =
      let nothing : spelled 10 values ≡ 0 = ap (spelled 10) (sym (list_run values)) ∙ spelled_zeros (λ i. get_or values i 0) 0 (length values) (λ i a b. none i (omega arith)) in
      rw at (record {
        fits = record { weight = record { sfits = omega arith }; scale = fits; count = omega arith; digits = tt };
        means = record { same = rw nothing (omega arith); scale = shown; sign = inr (nothing, refl) };
        canonical = record { ends = tt; zero = λ _. (refl, refl) };
        small = small;
      })

-- What no numeric holds.

-- digits spell at least what the first that isn't 0 counts, and less than one more of as many
pub spelled_least : (ds : List ℕ) (i : ℕ) → i < length ds → get_or ds i 0 ≢ 0 → 10 ^ (length ds - 1 - i) ≤ spelled 10 ds
spelled_least [] i lt some = absurd (omega arith)
spelled_least (d ∷ ds) zero lt some =
    let one : 1 ≤ d = omega (arith, some) in
    let e : length (d ∷ ds) - 1 - 0 ≡ length ds = omega arith in
    let m : 1 * 10 ^ length ds ≤ d * 10 ^ length ds = mul-le-mul one (omega arith) in
    rw e (omega (arith, m))
spelled_least (d ∷ ds) (suc i) lt some =
    let e : length (d ∷ ds) - 1 - suc i ≡ length ds - 1 - i = omega arith in
    let rest = spelled_least ds i (omega arith) some in
    rw e (omega (arith, rest))

pub spelled_most : (ds : List ℕ) → IsDigits ds → spelled 10000 ds < 10000 ^ length ds
spelled_most [] h = omega arith
spelled_most (d ∷ ds) h =
    let rest = spelled_most ds h.1 in
    let one : 1 + length ds ≡ suc (length ds) = omega arith in
    let s : 10000 ^ suc (length ds) ≡ 10000 * 10000 ^ length ds = ap (λ k. 10000 ^ k) (sym one) ∙ pow-add 10000 1 (length ds) in
    let room : (d + 1) * 10000 ^ length ds ≤ 10000 * 10000 ^ length ds = mul-le-mul (omega (arith, h.0)) (omega arith) in
    let spread : (d + 1) * 10000 ^ length ds ≡ d * 10000 ^ length ds + 10000 ^ length ds = omega arith in
    rw s (omega (arith, rest, room, spread))

power_less : (a b : ℕ) → 10 ^ a < 10 ^ b → a < b
power_less a b lt = elim (cases_lt a b) [
  | inl less ↦ less
  | inr more ↦ absurd (let up : 10 ^ b ≤ 10 ^ a = pow-le-pow_right (omega arith) more in omega (arith, up, lt))
]

-- one number is at least a power, another less than one, and times powers they are the same
exponents_less : (x y p q m n : ℕ) → 10 ^ p ≤ x → y < 10 ^ q → y * 10 ^ m ≡ x * 10 ^ n → p + n < q + m
exponents_less x y p q m n least most same =
    let left : 10 ^ (p + n) ≤ x * 10 ^ n = rw (pow-add 10 p n) (mul-le-mul least (omega arith)) in
    let right : y * 10 ^ m < 10 ^ (q + m) = rw (pow-add 10 q m) (mul-lt-mul_of_pos_right most (one-le-pow m 10 (omega arith))) in
    power_less (p + n) (q + m) (omega (arith, left, right, same))

weight_most : (z : ℤ) → FitsSigned w16 z → before_point z ≤ 131072
weight_most (pos k) f = omega (arith, f.sfits)
weight_most (negsuc j) f = omega arith

module _ (negative : Bool) (whole fraction : List ℕ) (divided : Bool) (exponent first point top : ℕ) where
  abbrev counted : List ℕ
  counted = map digit_value (whole ++ fraction)

  count_is : length counted ≡ length whole + length fraction
  count_is = length-map (whole ++ fraction) digit_value ∙ length-append whole fraction

  pub weight_past : first < length counted → get_or counted first 0 ≢ 0 → point + lowered divided exponent ≡ 2 ^ 31 + length whole + raised divided exponent → top ≡ (point - 1 - first) / 4
      → (scale : ℕ) → scale ≤ 16383 → scale ≡ places_of (reported_by negative whole fraction divided exponent) → IsPastWeights top → (d : Decimal) → IsDecimal d → IsNumberOf (reported_by negative whole fraction divided exponent) d → ⊥
  weight_past inside some point_is top_is scale fit shown (inr low) d fits n = omega (arith, count_is)
  weight_past inside some point_is top_is scale fit shown (inl high) d fits n =
      let least = spelled_least counted first inside some in
      let most : spelled 10000 d.digits < 10 ^ (4 * length d.digits) = rw (power_four (length d.digits)) (spelled_most d.digits fits.digits) in
      let less = exponents_less (spelled 10 counted) (spelled 10000 d.digits) (length counted - 1 - first) (4 * length d.digits) (before_point d.weight + length fraction + lowered divided exponent) (4 * length d.digits + (behind_by d.weight + raised divided exponent)) least most n.same in
      omega (arith, count_is, weight_most d.weight fits.weight, less)

-- a number that grows by a digit after the others
pub spelled_next : (bs : List ℕ) (i : ℕ) → i < length bs → spelled 10 (map digit_value (take (i + 1) bs)) ≡ 10 * spelled 10 (map digit_value (take i bs)) + digit_value (get_or bs i 0)
spelled_next bs i lt =
    let d = digit_value (get_or bs i 0) in
    let xs = map digit_value (take i bs) in
    let more : map digit_value (take (suc i) bs) ≡ xs ++ d ∷ [] = ap (map digit_value) (take-suc bs i 0 lt) ∙ map-append digit_value (take i bs) (get_or bs i 0 ∷ []) in
    rw add-one (ap (spelled 10) more ∙ (spelled_append 10 xs (d ∷ []) ∙ omega arith))

-- digits spell no more than they do with others after them
pub spelled_take : (bs : List ℕ) (n : ℕ) → spelled 10 (map digit_value (take n bs)) ≤ spelled 10 (map digit_value bs)
spelled_take bs n =
    let xs = map digit_value (take n bs) in
    let ys = map digit_value (drop n bs) in
    let all : map digit_value bs ≡ xs ++ ys = ap (map digit_value) (sym (take-append-drop n bs)) ∙ map-append digit_value (take n bs) (drop n bs) in
    let more : spelled 10 xs * 1 ≤ spelled 10 xs * 10 ^ length ys = mul-le-mul (omega arith) (one-le-pow (length ys) 10 (omega arith)) in
    omega (arith, ap (spelled 10) all, spelled_append 10 xs ys, more)

-- what stands before the digits, and the digits

length-int16 : (z : ℤ) → length (int16 z) ≡ 2
length-int16 z = ap length (int16_spelled z) ∙ length-uint16 (cast_unsigned w16 z)

pub laid_length : (count : ℕ) (weight : ℤ) (sign scale : ℕ) (ds : List ℕ) → length (laid_out count weight sign scale ds) ≡ 8 + length ds
laid_length count weight sign scale ds = omega (arith, length-append (uint16 count ++ (int16 weight ++ uint16 sign)) (uint16 scale ++ ds), length-append (uint16 count) (int16 weight ++ uint16 sign), length-append (int16 weight) (uint16 sign), length-append (uint16 scale) ds, length-uint16 count, length-uint16 sign, length-uint16 scale, length-int16 weight)

pub laid_more : (count : ℕ) (weight : ℤ) (sign scale : ℕ) (ds : List ℕ) (n : ℕ) → n ≡ count → laid_out count weight sign scale [] ++ ds ≡ laid_out n weight sign scale ds
laid_more count weight sign scale ds n e =
    let front = uint16 count ++ (int16 weight ++ uint16 sign) in
    rw e (append_assoc front (uint16 scale ++ []) ds ∙ ap (λ l. front ++ l) (append_assoc (uint16 scale) [] ds))
