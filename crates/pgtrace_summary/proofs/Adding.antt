-- A table that is added to another.
use Rattle.pgtrace_summary.proofs.Common.{◌≡◌, ℕ, zero, suc, ◌+◌, Bool, true, false, List, [], ◌∷◌, ◌++◌, refl, sym, ap, arith, ◌∙◌, inl, inr, append_assoc, if◌then◌else◌, bytes_eq, cases_Bool, Tally, begun, capped, grown, tallied, tally, tally_after, slice_get, take, option_to_list}
use Rattle.std.proofs.lemmas.Bool.{false≢true}
use Rattle.pgtrace_summary.proofs.Places.{turned}
use Rattle.pgtrace_summary.proofs.Tallies.{apart_more, same_text, stands_kept, tally_join}
use Rattle.pgtrace_summary.specs.Calls.{AreApart, stands_in}

-- ---- a place at a time

taken_more : (tallies xs : List Tally) (i : ℕ) → tally_after tallies (take (suc i) xs) ≡ tally_after (tally_after tallies (take i xs)) (option_to_list (slice_get xs i))
taken_more tallies [] zero = refl
taken_more tallies [] (suc i) = refl
taken_more tallies (x ∷ xs) zero = refl
taken_more tallies (x ∷ xs) (suc i) = taken_more (tallied x tallies) xs i

pub add_next : (tallies xs : List Tally) (i : ℕ) → tally_after (tally_after tallies (take i xs)) (option_to_list (slice_get xs i)) ≡ tally_after tallies (take (i + 1) xs)
add_next tallies xs i = sym (taken_more tallies xs i) ∙ ap (λ n. tally_after tallies (take n xs)) (let e : suc i ≡ i + 1 = omega arith in e)

-- ---- sums, as far as 64 bits count

sum_once : (a b : ℕ) → capped (a + capped (0 + b)) ≡ capped (a + b)
sum_once a b = omega arith

sum_twice : (a b c : ℕ) → capped (a + capped (b + c)) ≡ capped (capped (a + b) + c)
sum_twice a b c = omega arith

abbrev tally_with : (text : List ℕ) (rows : ℕ) → List ℕ → (total errors : ℕ) → Tally
tally_with text rows times total errors = record { text = text; rows = rows; times = times; total = total; errors = errors }

grown_once : (y e : Tally) → grown (begun y) e ≡ grown y e
grown_once y e = λ i. tally_with e.text (sum_once e.rows y.rows i) (e.times ++ y.times) (sum_once e.total y.total i) (sum_once e.errors y.errors i)

grown_twice : (y t e : Tally) → grown (grown y t) e ≡ grown y (grown t e)
grown_twice y t e = λ i. tally_with e.text (sum_twice e.rows t.rows y.rows i) (sym (append_assoc e.times t.times y.times) i) (sum_twice e.total t.total y.total i) (sum_twice e.errors t.errors y.errors i)

-- ---- a run, and then another of its statement

once : (y : Tally) (tallies : List Tally) → tallied (begun y) tallies ≡ tallied y tallies
once y [] = ap (λ e. e ∷ []) (grown_once y (record { text = y.text; rows = 0; times = []; total = 0; errors = 0 }))
once y (e ∷ more) =
    elim (cases_Bool (bytes_eq e.text y.text)) [
      | inl same ↦ rw same (ap (λ x. x ∷ more) (grown_once y e))
      | inr other ↦ rw other (ap (λ l. e ∷ l) (once y more))
    ]

twice : (y t : Tally) (tallies : List Tally) → bytes_eq t.text y.text ≡ true → tallied (grown y t) tallies ≡ tallied y (tallied t tallies)
twice y t [] is = rw is (ap (λ x. x ∷ []) (grown_twice y t (record { text = t.text; rows = 0; times = []; total = 0; errors = 0 })))
twice y t (e ∷ more) is =
    elim (cases_Bool (bytes_eq e.text t.text)) [
      | inl same ↦ rw (same, sym (like e.text) ∙ same) (ap (λ x. x ∷ more) (grown_twice y t e))
      | inr other ↦ rw (other, sym (like e.text) ∙ other) (ap (λ l. e ∷ l) (twice y t more is))
    ]
  where
    like : (x : List ℕ) → bytes_eq x t.text ≡ bytes_eq x y.text
    like x = ap (bytes_eq x) (same_text t.text y.text is)

-- of two statements, one of which stands there, either may come first
swapped : (u y : Tally) (tallies : List Tally) → bytes_eq u.text y.text ≡ false → stands_in y.text tallies ≡ true → tallied u (tallied y tallies) ≡ tallied y (tallied u tallies)
swapped u y [] differ stands = absurd (false≢true stands)
swapped u y (e ∷ more) differ stands =
    elim (cases_Bool (bytes_eq e.text y.text)) [
      | inl same ↦ (let un : bytes_eq e.text u.text ≡ false = ap (λ x. bytes_eq x u.text) (same_text e.text y.text same) ∙ turned u.text y.text false differ in rw (same, un) (rw same refl))
      | inr other ↦ elim (cases_Bool (bytes_eq e.text u.text)) [
        | inl here ↦ rw (other, here) (rw other refl)
        | inr there ↦ rw (other, there) (rw other (ap (λ l. e ∷ l) (swapped u y more differ (ap (λ b. if b then true else stands_in y.text more) (sym other) ∙ stands))))
      ]
    ]

stands_now : (y : List ℕ) (t : Tally) (tallies : List Tally) → bytes_eq t.text y ≡ true → stands_in y (tallied t tallies) ≡ true
stands_now y t [] is = rw is refl
stands_now y t (e ∷ more) is =
    elim (cases_Bool (bytes_eq e.text t.text)) [
      | inl same ↦ (let like : bytes_eq e.text y ≡ true = ap (λ x. bytes_eq x y) (same_text e.text t.text same) ∙ is in rw same (rw like refl))
      | inr other ↦ rw other (both (bytes_eq e.text y) (stands_now y t more is))
    ]
  where
    both : (b : Bool) {c : Bool} → c ≡ true → (if b then true else c) ≡ true
    both true e = refl
    both false e = e

-- it may come before a table in which its statement doesn't stand
before : (y : Tally) (tallies more : List Tally) → stands_in y.text tallies ≡ true → stands_in y.text more ≡ false → tally_after (tallied y tallies) more ≡ tallied y (tally_after tallies more)
before y tallies [] stands none = refl
before y tallies (u ∷ more) stands none =
    elim (cases_Bool (bytes_eq u.text y.text)) [
      | inl same ↦ absurd (false≢true (sym none ∙ ap (λ b. if b then true else stands_in y.text more) same))
      | inr other ↦ ap (λ l. tally_after l more) (swapped u y tallies other stands)
          ∙ before y (tallied u tallies) more (stands_kept y.text u tallies other ∙ stands) (ap (λ b. if b then true else stands_in y.text more) (sym other) ∙ none)
    ]

-- ---- a run more in the table that is added

one_more : (y : Tally) (tallies added : List Tally) → AreApart added → tally_after tallies (tallied y added) ≡ tallied y (tally_after tallies added)
one_more y tallies [] a = once y tallies
one_more y tallies (t ∷ more) a =
    elim (cases_Bool (bytes_eq t.text y.text)) [
      | inl same ↦ rw same (ap (λ l. tally_after l more) (twice y t tallies same)
          ∙ before y (tallied t tallies) more (stands_now y.text t tallies same) (ap (λ x. stands_in x more) (sym (same_text t.text y.text same)) ∙ a.0))
      | inr other ↦ rw other (one_more y (tallied t tallies) more a.1)
    ]

all_more : (tallies added runs : List Tally) → AreApart added → tally_after tallies (tally_after added runs) ≡ tally_after (tally_after tallies added) runs
all_more tallies added [] a = refl
all_more tallies added (y ∷ runs) a = all_more tallies (tallied y added) runs (apart_more y added a) ∙ ap (λ l. tally_after l runs) (one_more y tallies added a)

pub tables_add : (runs more : List Tally) → tally_after (tally runs) (tally more) ≡ tally (runs ++ more)
tables_add runs more = all_more (tally runs) [] more tt ∙ tally_join [] runs more
