-- The text of a number with hidden places is the number cut off.
use Rattle.pgp_values.proofs.Common.{◌≡◌, ℕ, zero, suc, ℤ, pos, negsuc, ◌+◌, ◌*◌, ◌<◌, ◌≤◌, ◌^◌, List, ◌∷◌, ◌++◌, length, sym, ap, ◌∙◌, arith, mul-le-mul, pow-add, spelled, before_point, behind_by, IsCut, Decimal, IsDigits, decimal_at, run, whole_places, whole_digits, behind_point}
use Rattle.pgp_values.proofs.AmountLemmas.{run_split, run_shift, spelled_append, spelled_behind, places_spell, whole_is, behind_zero, behind_digit}
use Rattle.pgp_values.proofs.RoundLemmas.{at_small, behind_small}
use Rattle.pgp_values.proofs.TextLemmas.{run_length}

run_most : (f : ℕ → ℕ) (from n : ℕ) → ((i : ℕ) → f i < 10) → spelled 10 (run f from n) < 10 ^ n
run_most f from zero small = omega arith
run_most f from (suc n) small =
    let rest = run_most f (from + 1) n small in
    let one : 1 + n ≡ suc n = omega arith in
    let s : 10 ^ suc n ≡ 10 * 10 ^ n = ap (λ k. 10 ^ k) (sym one) ∙ pow-add 10 1 n in
    let count : f from * 10 ^ length (run f (from + 1) n) ≡ f from * 10 ^ n = ap (λ k. f from * 10 ^ k) (run_length f (from + 1) n) in
    let room : (f from + 1) * 10 ^ n ≤ 10 * 10 ^ n = mul-le-mul (omega (arith, small from)) (omega arith) in
    let spread : (f from + 1) * 10 ^ n ≡ f from * 10 ^ n + 10 ^ n = omega arith in
    rw s (omega (arith, rest, count, room, spread))

-- a run, cut
cut_run : (f : ℕ → ℕ) (m n : ℕ) → spelled 10 (run f 0 (m + n)) ≡ spelled 10 (run f 0 m) * 10 ^ n + spelled 10 (run f (0 + m) n)
cut_run f m n = ap (spelled 10) (run_split f 0 m n) ∙ (spelled_append 10 (run f 0 m) (run f (0 + m) n) ∙ ap (λ k. spelled 10 (run f 0 m) * 10 ^ k + spelled 10 (run f (0 + m) n)) (run_length f (0 + m) n))

pub record Cuts (text number power : ℕ) : Type 0 where
  pub most : text * power ≤ number
  pub less : number < (text + 1) * power

cuts_by : (text number power left : ℕ) → number ≡ text * power + left → left < power → Cuts text number power
cuts_by text number power left e small =
    let spread : (text + 1) * power ≡ text * power + power = omega arith in
    record { most = omega (arith, e); less = omega (arith, e, small, spread) }

cut_pos : (ds : List ℕ) (k scale : ℕ) → IsDigits ds → Cuts (spelled 10 (whole_digits (pos k) ds ++ run (behind_point (pos k) ds) 0 scale)) (spelled 10000 ds * 10 ^ (whole_places k + scale)) (10 ^ (4 * length ds + 0))
cut_pos ds k scale h =
    let f = decimal_at ds in
    let n = 4 * length ds in
    let m = whole_places k + scale in
    let both : n + m ≡ m + n = omega arith in
    let z : n + 0 ≡ n = omega arith in
    let all : spelled 10000 ds * 10 ^ m ≡ spelled 10 (run f 0 m) * 10 ^ n + spelled 10 (run f (0 + m) n) = sym (places_spell ds m) ∙ (ap (λ j. spelled 10 (run f 0 j)) both ∙ cut_run f m n) in
    rw (z, whole_is ds k scale) (cuts_by (spelled 10 (run f 0 m)) (spelled 10000 ds * 10 ^ m) (10 ^ n) (spelled 10 (run f (0 + m) n)) all (run_most f (0 + m) n (λ i. at_small ds i h)))

cut_neg : (ds : List ℕ) (j scale : ℕ) → IsDigits ds → Cuts (spelled 10 (0 ∷ run (behind_point (negsuc j) ds) 0 scale)) (spelled 10000 ds * 10 ^ (0 + scale)) (10 ^ (4 * length ds + 4 * j))
cut_neg ds j scale h =
    let g = behind_point (negsuc j) ds in
    let n = 4 * length ds in
    let zeros = 4 * j in
    let z : 0 + scale ≡ scale = omega arith in
    let both : zeros + (n + scale) ≡ scale + (n + zeros) = omega arith in
    let behind : run g zeros (n + scale) ≡ run (decimal_at ds) 0 (n + scale) = run_shift g (decimal_at ds) zeros 0 zeros (n + scale) (omega arith) (behind_digit ds j) in
    let front : spelled 10 (0 ∷ run g 0 scale) ≡ spelled 10 (run g 0 scale) = omega arith in
    let all : spelled 10000 ds * 10 ^ scale ≡ spelled 10 (run g 0 scale) * 10 ^ (n + zeros) + spelled 10 (run g (0 + scale) (n + zeros)) =
    sym (places_spell ds scale) ∙ (ap (spelled 10) (sym behind) ∙ (sym (spelled_behind g zeros (n + scale) (behind_zero ds j)) ∙ (ap (λ k. spelled 10 (run g 0 k)) both ∙ cut_run g scale (n + zeros)))) in
    rw (z, front) (cuts_by (spelled 10 (run g 0 scale)) (spelled 10000 ds * 10 ^ scale) (10 ^ (n + zeros)) (spelled 10 (run g (0 + scale) (n + zeros))) all (run_most g (0 + scale) (n + zeros) (λ i. behind_small (negsuc j) ds i h)))

cut_by : (w : ℤ) (ds : List ℕ) (scale : ℕ) → IsDigits ds → Cuts (spelled 10 (whole_digits w ds ++ run (behind_point w ds) 0 scale)) (spelled 10000 ds * 10 ^ (before_point w + scale)) (10 ^ (4 * length ds + behind_by w))
cut_by (pos k) ds scale h = cut_pos ds k scale h
cut_by (negsuc j) ds scale h = cut_neg ds j scale h

pub number_cut : (d : Decimal) → IsDigits d.digits → IsCut d
number_cut d h =
    let c = cut_by d.weight d.digits d.scale h in
    record { most = c.most; less = c.less }
