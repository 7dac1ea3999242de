-- Keys in ascending order have the statements in the order of a table.
use Rattle.pgtrace_summary.proofs.Common.{◌≡◌, ℕ, zero, suc, ◌+◌, ◌-◌, ◌^◌, ◌<◌, ◌≤◌, get_or, List, [], ◌∷◌, ◌++◌, length, Some, refl, sym, ap, subst, arith, ◌∙◌, inl, inr, nat_lt, cases_Bool, Tally, capped, ascending, inserted, ⊤, ◌%◌, slice_get, take, option_to_list, flat_map, AreKeys, Fits, FitsAt, key, key_at, picked, IsPermutation, IsSorted, nat_cmp, le-ltb, lt-ltb, ltb-false, ltb-true, sum_by_more, placed, ranked, sum_of}
use Rattle.pgtrace_summary.proofs.Sorting.{sorted_is}

-- ---- keys so far

keys_next : (place : ℕ) (l : List Tally) (n p : ℕ) (keys : List ℕ) → p ≡ place + n → AreKeys place (take n l) keys → FitsAt p (slice_get l n) → AreKeys place (take (suc n) l) (keys ++ key_at p (slice_get l n))
keys_next place [] zero p [] is are fits = tt
keys_next place [] (suc n) p [] is are fits = tt
keys_next place (e ∷ l) zero p [] is are fits = ((fits.0, let n = fits.1 in omega (arith, n, is)), ap (key e.total) (omega (arith, is)), tt)
keys_next place (e ∷ l) (suc n) p (k ∷ keys) is are fits = (are.0, are.1, keys_next (place + 1) l n p keys (omega (arith, is)) are.2 fits)
keys_next place l n p keys is are fits = absurd are

pub keys_more : (l : List Tally) (n : ℕ) (keys new : List ℕ) → AreKeys 0 (take n l) keys → new ≡ keys ++ key_at n (slice_get l n) → FitsAt n (slice_get l n) → AreKeys 0 (take (n + 1) l) new
keys_more l n keys new are adds fits = subst (AreKeys 0 (take (n + 1) l)) (sym adds)
    (subst (λ k. AreKeys 0 (take k l) (keys ++ key_at n (slice_get l n))) (let e : suc n ≡ n + 1 = omega arith in e) (keys_next 0 l n n keys (omega arith) are fits))

-- ---- keys and statements side by side

-- the statement that came at this place, which isn't before another, and its key
record HasKey (all : List Tally) (low k : ℕ) (e : Tally) : Type 0 where
  place : ℕ
  later : low ≤ place
  fits : Fits e.total place
  is : k ≡ key e.total place
  here : slice_get all place ≡ Some e

abbrev HaveKeys : (all : List Tally) (low : ℕ) → List ℕ → List Tally → Type 0
HaveKeys all low [] [] = ⊤
HaveKeys all low (k ∷ keys) (e ∷ more) = HasKey all low k e × HaveKeys all low keys more
HaveKeys all low keys tallies = ⊥

lower : (all : List Tally) (low : ℕ) (keys : List ℕ) (tallies : List Tally) → HaveKeys all (low + 1) keys tallies → HaveKeys all low keys tallies
lower all low [] [] h = tt
lower all low (k ∷ keys) (e ∷ more) h = (record { place = h.0.place; later = let l = h.0.later in omega (arith, l); fits = h.0.fits; is = h.0.is; here = h.0.here }, lower all low keys more h.1)
lower all low keys tallies h = absurd h

-- of two statements the first in the table has the lesser key
key_order : (t u p q : ℕ) → u ≤ 2 ^ 64 - 1 → q ≤ 2 ^ 64 - 1 → p < q → nat_lt (key u q) (key t p) ≡ nat_lt t u
key_order t u p q small near lt =
    elim (cases_Bool (nat_lt t u)) [
      | inl less ↦ (let h = ltb-true t u less in lt-ltb (key u q) (key t p) (omega (arith, h, small, near)) ∙ sym less)
      | inr more ↦ (let h = ltb-false t u more in le-ltb (key u q) (key t p) (omega (arith, h, lt)) ∙ sym more)
    ]

one_placed : (all : List Tally) (low k : ℕ) (e : Tally) (keys : List ℕ) (tallies : List Tally) → Fits e.total low → k ≡ key e.total low → slice_get all low ≡ Some e → HaveKeys all (low + 1) keys tallies → HaveKeys all low (inserted k keys) (placed e tallies)
one_placed all low k e [] [] fits is here h = (record { place = low; later = omega arith; fits = fits; is = is; here = here }, tt)
one_placed all low k e (x ∷ keys) (d ∷ more) fits is here h =
    elim (cases_Bool (nat_lt e.total d.total)) [
      | inl less ↦ rw (order ∙ less, less) (all_low.0, one_placed all low k e keys more fits is here h.1)
      | inr least ↦ rw (order ∙ least, least) (record { place = low; later = omega arith; fits = fits; is = is; here = here }, all_low)
    ]
  where
    all_low : HaveKeys all low (x ∷ keys) (d ∷ more)
    all_low = lower all low (x ∷ keys) (d ∷ more) h

    order : nat_lt x k ≡ nat_lt e.total d.total
    order = ap (λ n. nat_lt n k) h.0.is ∙ ap (nat_lt (key d.total h.0.place)) is ∙ key_order e.total d.total low h.0.place h.0.fits.0 h.0.fits.1 (let l = h.0.later in omega (arith, l))
one_placed all low k e keys tallies fits is here h = absurd h

all_placed : (all rest : List Tally) (low : ℕ) (keys : List ℕ) → ((j : ℕ) → slice_get all (low + j) ≡ slice_get rest j) → AreKeys low rest keys → HaveKeys all low (ascending keys) (ranked rest)
all_placed all [] low [] at are = tt
all_placed all (e ∷ rest) low (k ∷ keys) at are =
    one_placed all low k e (ascending keys) (ranked rest) are.0 are.1 (ap (slice_get all) (omega arith) ∙ at 0)
    (all_placed all rest (low + 1) keys (λ j. ap (slice_get all) (omega arith) ∙ at (suc j)) are.2)
all_placed all rest low keys at are = absurd are

-- ---- statements by their keys

place_in : (t p k : ℕ) → p ≤ 2 ^ 64 - 1 → k ≡ key t p → k % 2 ^ 64 ≡ p
place_in t p k near is = omega (arith, near, is)

all_picked : (all : List Tally) (low : ℕ) (keys : List ℕ) (tallies : List Tally) → HaveKeys all low keys tallies → flat_map (picked all) keys ≡ tallies
all_picked all low [] [] h = refl
all_picked all low (k ∷ keys) (e ∷ more) h = ap (λ o. option_to_list o ++ flat_map (picked all) keys) (ap (slice_get all) (place_in e.total h.0.place k h.0.fits.1 h.0.is) ∙ h.0.here) ∙ ap (λ l. e ∷ l) (all_picked all low keys more h.1)
all_picked all low keys tallies h = absurd h

pub ranked_is : (all some : List Tally) (keys sorted : List ℕ) → some ≡ all → AreKeys 0 some keys → IsPermutation keys sorted → IsSorted nat_cmp sorted → flat_map (picked all) sorted ≡ ranked all
ranked_is all some keys sorted is are moved up = ap (flat_map (picked all)) (sorted_is keys keys sorted refl moved up)
    ∙ all_picked all 0 (ascending keys) (ranked all) (all_placed all all 0 keys (λ j. ap (slice_get all) (omega arith)) (subst (λ l. AreKeys 0 l keys) is are))

pub sum_next : (l : List Tally) (i : ℕ) (d : Tally) → i < length l → capped (sum_of (take i l) + (get_or l i d).total) ≡ sum_of (take (i + 1) l)
sum_next l i d lt = let h = sum_by_more (λ (e : Tally). e.total) l i d lt in omega (arith, h)
