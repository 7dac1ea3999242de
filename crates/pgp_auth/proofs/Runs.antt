-- How the parts of a text are read.
use Rattle.pgp_auth.proofs.Common.{◌^◌, ◌==◌, ◌≡◌, ℕ, ◌+◌, ◌-◌, ◌*◌, ◌<◌, ◌≤◌, Bool, true, false, List, [], ◌∷◌, length, take, drop, get_or, refl, sym, arith, get_or-take, length-take-le, drop_more, drop_all, prefix_len_passes, prefix_len-le-length, prefix_len, AllPass, number, number_from, nat_tests, Ok, Err, front_of, rest_of, count_of, EndsRun, ◌++◌, suc, cond, subst, take_at, drop_at, take_all, get_or_append_left, get_or_at, length-append, prefix_len_is}
use Rattle.std.proofs.Common.{nat_lt}
use Rattle.pgp_auth.specs.declared.scram.reading.Fault.TheVariants.{InvalidNumber}

-- each byte of the front passes
pub front_passes : (p : ℕ → Bool) (s : List ℕ) → AllPass p (front_of p s)
front_passes p s =
    let len : length (take (prefix_len p s) s) ≡ prefix_len p s = length-take-le (prefix_len p s) s (prefix_len-le-length p s) in
    λ k d lt.
    let below : k < prefix_len p s = omega arith in
    rw (get_or-take (prefix_len p s) s k d below) (prefix_len_passes p s k d below)

pub digits_grow : (n : ℕ) (ds : List ℕ) → n ≤ number_from n ds
unfolding number_from
digits_grow n [] = omega arith
digits_grow n (d ∷ ds) =
    let h = digits_grow (n * 10 + (d - 48)) ds in
    omega arith

-- one more digit
pub digits_step : (n i : ℕ) (ds : List ℕ) → i < length ds → number_from n (drop i ds) ≡ number_from (n * 10 + (get_or ds i 0 - 48)) (drop (i + 1) ds)
unfolding number_from
digits_step n i ds lt = rw (drop_more ds i 0 lt) refl

-- a prefix of the digits is too large already
pub too_large : (n i : ℕ) (ds : List ℕ) → number_from n (drop i ds) ≡ number ds → i < length ds → 2 ^ 32 ≤ n * 10 + (get_or ds i 0 - 48) → count_of ds ≡ Err InvalidNumber
unfolding count_of
too_large n i ds e lt big =
    let grown = digits_grow (n * 10 + (get_or ds i 0 - 48)) (drop (i + 1) ds) in
    let step = digits_step n i ds lt in
    let value : 2 ^ 32 ≤ number ds = omega arith in
    let some : (length ds == 0) ≡ false = grind (arith, nat_tests) in
    let over : nat_lt (number ds) (2 ^ 32) ≡ false = grind (arith, nat_tests) in
    rw (some, over) refl

-- all digits were taken
pub all_taken : (n i : ℕ) (ds : List ℕ) → number_from n (drop i ds) ≡ number ds → i ≡ length ds → 0 < length ds → n < 2 ^ 32 → Ok n ≡ count_of ds
unfolding count_of number_from
all_taken n i ds e at some_ fits =
    let none : drop i ds ≡ [] = drop_all i ds (omega arith) in
    let value : number ds ≡ n = sym (rw none at e) in
    let some : (length ds == 0) ≡ false = grind (arith, nat_tests) in
    let under : nat_lt n (2 ^ 32) ≡ true = grind (arith, nat_tests) in
    rw (some, value, under) refl

-- a run that another byte ends
pub run_stops : (p : ℕ → Bool) (a : List ℕ) (c : ℕ) (r : List ℕ) → AllPass p a → p c ≡ false
    → (front_of p (a ++ c ∷ r) ≡ a) × (rest_of p (a ++ c ∷ r) ≡ c ∷ r)
run_stops p a c r pass stop =
    let len : prefix_len p (a ++ c ∷ r) ≡ length a =
    prefix_len_is p (a ++ c ∷ r) (length a) 0 (omega (arith, length-append a (c ∷ r)))
    (λ k lt. rw (get_or_append_left a (c ∷ r) 0 k lt) (pass k 0 lt))
    (λ lt. rw (get_or_at a c r 0 (length a) refl) stop) in
    (rw (len, take_at a (c ∷ r) (length a) refl) refl, rw (len, drop_at a (c ∷ r) (length a) refl) refl)

-- a run to the end
pub run_ends : (p : ℕ → Bool) (a : List ℕ) → AllPass p a → (front_of p a ≡ a) × (rest_of p a ≡ [])
run_ends p a pass =
    let len : prefix_len p a ≡ length a =
    prefix_len_is p a (length a) 0 (omega arith) (λ k lt. pass k 0 lt) (λ lt. absurd (omega arith)) in
    (rw (len, take_all (length a) a (omega arith)) refl, rw (len, drop_all (length a) a (omega arith)) refl)

drop_one : (k c : ℕ) (s : List ℕ) → drop (1 + k) (c ∷ s) ≡ drop k s
drop_one k c s =
    let same : 1 + k ≡ suc k = omega arith in
    rw same refl

rest_cases : (test : ℕ → Bool) (c : ℕ) (s : List ℕ) (b : Bool) → test c ≡ b → EndsRun test (rest_of test s)
    → EndsRun test (drop (cond b (1 + prefix_len test s) 0) (c ∷ s))
rest_cases test c s true e h = subst (λ (x : List ℕ). EndsRun test x) (sym (drop_one (prefix_len test s) c s)) h
rest_cases test c s false e h = e

-- what follows the longest run ends it
pub rest_ends : (test : ℕ → Bool) (s : List ℕ) → EndsRun test (rest_of test s)
rest_ends test [] = tt
rest_ends test (c ∷ s) = rest_cases test c s (test c) refl (rest_ends test s)
