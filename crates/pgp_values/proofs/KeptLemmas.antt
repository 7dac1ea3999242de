-- A value that a text or an integer means is in the form that a server keeps: no place after those that are shown has a digit.
use Rattle.pgp_values.proofs.Common.{◌≡◌, inl, inr, ℕ, suc, ℤ, ◌+◌, ◌-◌, ◌*◌, ◌<◌, ◌≤◌, ◌^◌, true, false, List, [], ◌∷◌, ◌++◌, length, sym, ap, ◌∙◌, arith, append_assoc, one-le-pow, le_of_mul-le-mul_right, lt_of_mul-lt-mul_right, pow-add, spelled, before_point, behind_by, IsShown, IsCut, Decimal, Numeric, IsDigits, run, whole_digits, behind_point, text_digits, Reported, raised, lowered, IsIntegerOf, IntegerMeans, IsValueOf, IsKept, TellsOrNames, TextMeans, SpecialText}
use Rattle.pgp_values.proofs.AmountLemmas.{run_split, spelled_append}
use Rattle.pgp_values.proofs.CutLemmas.{number_cut}
use Rattle.pgp_values.proofs.OnceLemmas.{times_same}
use Rattle.pgp_values.proofs.RoundLemmas.{behind_small}

-- a number with so many places after the point, one place past them or further on
places_none : (b t x y n r i : ℕ) → b * 10 ^ (x + y) ≡ t * 10 ^ (n + r) → y ≤ i + r → b * 10 ^ (x + suc i) ≡ 10 * (t * 10 ^ (i + r - y)) * 10 ^ n
places_none b t x y n r i same fits =
    let k = i + r - y in
    let one : 10 ^ (1 + k) ≡ 10 * 10 ^ k = pow-add 10 1 k in
    let sum : x + suc i + r ≡ x + y + (1 + k) = omega (arith, fits) in
    let first : 10 ^ (x + suc i + r) ≡ 10 ^ (x + suc i) * 10 ^ r = pow-add 10 (x + suc i) r in
    let second : 10 ^ (x + y + (1 + k)) ≡ 10 ^ (x + y) * 10 ^ (1 + k) = pow-add 10 (x + y) (1 + k) in
    let both : 10 ^ (x + suc i) * 10 ^ r ≡ 10 ^ (x + y) * (10 * 10 ^ k) = sym first ∙ (ap (λ m. 10 ^ m) sum ∙ (second ∙ ap (λ p. 10 ^ (x + y) * p) one)) in
    let right : b * 10 ^ (x + y) ≡ t * (10 ^ n * 10 ^ r) = same ∙ ap (λ p. t * p) (pow-add 10 n r) in
    let left : b * 10 ^ (x + suc i) * 10 ^ r ≡ b * (10 ^ (x + suc i) * 10 ^ r) = omega arith in
    let spread : b * (10 ^ (x + y) * (10 * 10 ^ k)) ≡ b * 10 ^ (x + y) * (10 * 10 ^ k) = omega arith in
    let gathered : t * (10 ^ n * 10 ^ r) * (10 * 10 ^ k) ≡ 10 * (t * 10 ^ k) * 10 ^ n * 10 ^ r = omega arith in
    times_same (b * 10 ^ (x + suc i)) (10 * (t * 10 ^ k) * 10 ^ n) (10 ^ r) (one-le-pow r 10 (omega arith))
    (left ∙ (ap (λ p. b * p) both ∙ (spread ∙ (ap (λ p. p * (10 * 10 ^ k)) right ∙ gathered))))

-- what is cut off of a number with no more places is nothing
cut_none : (text whole power : ℕ) → text * power ≤ whole * power → whole * power < (text + 1) * power → 1 ≤ power → text ≡ whole
cut_none text whole power most less some =
    let a : text ≤ whole = le_of_mul-le-mul_right most some in
    let b : whole < text + 1 = lt_of_mul-lt-mul_right power less in
    omega (arith, a, b)

-- its last place
last_place : (w : ℤ) (ds : List ℕ) (i : ℕ) → spelled 10 (whole_digits w ds ++ run (behind_point w ds) 0 (suc i)) ≡ 10 * spelled 10 (whole_digits w ds ++ run (behind_point w ds) 0 i) + behind_point w ds i
last_place w ds i =
    let f = behind_point w ds in
    let whole = whole_digits w ds in
    let one : suc i ≡ i + 1 = omega arith in
    let at : 0 + i ≡ i = omega arith in
    let split : whole ++ run f 0 (suc i) ≡ (whole ++ run f 0 i) ++ (f i ∷ []) = ap (λ n. whole ++ run f 0 n) one ∙ (ap (λ l. whole ++ l) (run_split f 0 i 1 ∙ ap (λ n. run f 0 i ++ run f n 1) at) ∙ sym (append_assoc whole (run f 0 i) (f i ∷ []))) in
    ap (spelled 10) split ∙ (spelled_append 10 (whole ++ run f 0 i) (f i ∷ []) ∙ omega arith)

-- no place past those of a number that is the same has a digit
hides_none : (d : Decimal) (t y r i : ℕ) → IsDigits d.digits → spelled 10000 d.digits * 10 ^ (before_point d.weight + y) ≡ t * 10 ^ (4 * length d.digits + behind_by d.weight + r) → y ≤ i + r → behind_point d.weight d.digits i ≡ 0
hides_none d t y r i digits same fits =
    let w = d.weight in
    let ds = d.digits in
    let n = 4 * length ds + behind_by w in
    let more : Decimal = record { negative = d.negative; weight = w; scale = suc i; digits = ds } in
    let cut : IsCut more = number_cut more digits in
    let rest = t * 10 ^ (i + r - y) in
    let all : spelled 10000 ds * 10 ^ (before_point w + suc i) ≡ 10 * rest * 10 ^ n = places_none (spelled 10000 ds) t (before_point w) y n r i same fits in
    let text : spelled 10 (text_digits more) ≡ 10 * rest = cut_none (spelled 10 (text_digits more)) (10 * rest) (10 ^ n) (omega (arith, cut.most, all)) (omega (arith, cut.less, all)) (one-le-pow n 10 (omega arith)) in
    omega (arith, text, last_place w ds i, behind_small w ds i digits)

shown : (t : Reported) (d : Decimal) → IsValueOf t d → IsShown d
shown t d v i past =
    let x = before_point d.weight in
    let y = t.places + lowered t.divided t.exponent in
    let r = raised t.divided t.exponent in
    let scale : d.scale ≡ y - r = v.means.scale in
    let before : x + t.places + lowered t.divided t.exponent ≡ x + y = omega arith in
    let behind : 4 * length d.digits + (behind_by d.weight + r) ≡ 4 * length d.digits + behind_by d.weight + r = omega arith in
    hides_none d (spelled 10 t.digits) y r i v.fits.digits
    (ap (λ k. spelled 10000 d.digits * 10 ^ k) (sym before) ∙ (v.means.same ∙ ap (λ k. spelled 10 t.digits * 10 ^ k) behind)) (omega (arith, scale, past))

whole_shown : (n : ℤ) (d : Decimal) → IsIntegerOf n d → IsShown d
whole_shown n d v i past =
    let before : before_point d.weight + 0 ≡ before_point d.weight = omega arith in
    let behind : 4 * length d.digits + behind_by d.weight ≡ 4 * length d.digits + behind_by d.weight + 0 = omega arith in
    hides_none d v.means.magnitude 0 0 i v.fits.digits
    (ap (λ k. spelled 10000 d.digits * 10 ^ k) before ∙ (v.means.same ∙ ap (λ k. v.means.magnitude * 10 ^ k) behind)) (omega arith)

pub integer_is_kept : (n : ℤ) (v : Numeric) → IntegerMeans n v → IsKept v
integer_is_kept n v m = rw (m.2) (m.1.fits, (m.1.canonical, whole_shown n m.0 m.1))

named : (bytes : List ℕ) (v : Numeric) → SpecialText bytes v → IsKept v
named bytes v (inl a) = rw (a.1) tt
named bytes v (inr (true, sign, signed, rest, all, word, is)) = rw is tt
named bytes v (inr (false, sign, signed, rest, all, word, is)) = rw is tt

meant : (text : List ℕ) (v : Numeric) → TellsOrNames text v → IsKept v
meant text v (inl m) = rw (m.4) (m.3.fits, (m.3.canonical, shown m.0 m.2 m.3))
meant text v (inr n) = named n.inside v n.names

pub meant_is_kept : (text : List ℕ) (v : Numeric) → TextMeans text v → IsKept v
meant_is_kept text v m = meant text v m.1
