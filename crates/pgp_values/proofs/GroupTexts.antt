-- The text of digits to the base 10,000, as it grows by four letters at a time.
use Rattle.pgp_values.proofs.Common.{◌≡◌, ◌≢◌, ◌⊎◌, ℕ, suc, ◌+◌, ◌-◌, ◌*◌, ◌/◌, ◌%◌, ◌<◌, ◌≤◌, List, ◌++◌, length, map, get_or, refl, sym, ap, ◌∙◌, arith, map-append, Held, ◌⊕◌, more_twice, decimal_in, decimal_at, run, letter, stripped, whole_places}
use Rattle.pgp_values.proofs.AmountLemmas.{run_split}
use Rattle.pgp_values.proofs.TextLemmas.{letters_length, stripped_run}

at_place : (ds : List ℕ) (group place at : ℕ) → place < 4 → at ≡ 4 * group + place → decimal_at ds at ≡ decimal_in (get_or ds group 0) place
unfolding decimal_at
at_place ds group place at lt e =
    let q : at / 4 ≡ group = omega (arith, e) in
    let r : at % 4 ≡ place = omega (arith, e) in
    rw (q, r) refl

-- the four decimal digits of one
four_places : (ds : List ℕ) (group : ℕ) → run (decimal_at ds) (4 * group) 4 ≡ run (decimal_in (get_or ds group 0)) 0 4
four_places ds group =
    rw (at_place ds group 0 (4 * group) (omega arith) (omega arith), at_place ds group 1 (4 * group + 1) (omega arith) (omega arith), at_place ds group 2 (4 * group + 1 + 1) (omega arith) (omega arith), at_place ds group 3 (4 * group + 1 + 1 + 1) (omega arith) (omega arith)) refl

pub letters_split : (f : ℕ → ℕ) (from m n : ℕ) → map letter (run f from (m + n)) ≡ map letter (run f from m) ++ map letter (run f (from + m) n)
letters_split f from m n = ap (map letter) (run_split f from m n) ∙ map-append letter (run f from m) (run f (from + m) n)

-- one digit more
pub groups_more : {K : Type 0} (ds : List ℕ) (first i digit : ℕ) (a b r : Held K) → digit ≡ get_or ds (first + i) 0 → b ≡ a ⊕ map letter (run (decimal_at ds) (4 * first) (4 * i)) → r ≡ b ⊕ map letter (run (decimal_in digit) 0 4)
    → r ≡ a ⊕ map letter (run (decimal_at ds) (4 * first) (4 * (i + 1)))
groups_more ds first i digit a b r is e h =
    let f = decimal_at ds in
    let at : 4 * first + 4 * i ≡ 4 * (first + i) = omega arith in
    let more : 4 * i + 4 ≡ 4 * (i + 1) = omega arith in
    let four : run (decimal_in digit) 0 4 ≡ run f (4 * first + 4 * i) 4 = ap (λ d. run (decimal_in d) 0 4) is ∙ (sym (four_places ds (first + i)) ∙ ap (λ k. run f k 4) (sym at)) in
    let all : map letter (run f (4 * first) (4 * i)) ++ map letter (run (decimal_in digit) 0 4) ≡ map letter (run f (4 * first) (4 * (i + 1))) =
    ap (λ l. map letter (run f (4 * first) (4 * i)) ++ map letter l) four ∙ (sym (letters_split f (4 * first) (4 * i) 4) ∙ ap (λ n. map letter (run f (4 * first) n)) more) in
    h ∙ (ap (λ b. b ⊕ map letter (run (decimal_in digit) 0 4)) e ∙ (more_twice a (map letter (run f (4 * first) (4 * i))) (map letter (run (decimal_in digit) 0 4)) ∙ ap (λ l. a ⊕ l) all))

-- From the first place that is shown on: what is left of its digit, and the digits behind.
pub groups_behind : (f : ℕ → ℕ) (k from : ℕ) → from ≤ 4 * k + 3 → ((i : ℕ) → i < from → f i ≡ 0) → (from ≡ 4 * k + 3) ⊎ (f from ≢ 0)
    → (map letter (run f from (4 - from % 4)) ++ map letter (run f (4 * (from / 4 + 1)) (4 * (k - from / 4))) ≡ map letter (stripped (run f 0 (whole_places k))))
    × (4 - from % 4 + 4 * (k - from / 4) ≡ length (map letter (stripped (run f 0 (whole_places k)))))
groups_behind f k from inside none some =
    let m = 4 - from % 4 in
    let n = 4 * (k - from / 4) in
    let count : m + n ≡ suc (4 * k + 3) - from = omega arith in
    let places : suc (4 * k + 3) ≡ whole_places k = omega arith in
    let next : from + m ≡ 4 * (from / 4 + 1) = omega arith in
    let same : run f from (m + n) ≡ stripped (run f 0 (whole_places k)) = stripped_run f (4 * k + 3) from (m + n) inside none some count ∙ ap (λ p. stripped (run f 0 p)) places in
    (ap (λ p. map letter (run f from m) ++ map letter (run f p n)) (sym next) ∙ (sym (letters_split f from m n) ∙ ap (map letter) same), sym (letters_length f from (m + n)) ∙ ap (λ l. length (map letter l)) same)
