-- Each run is tallied, among those of its statement.
use Rattle.pgtrace_summary.proofs.Common.{◌≡◌, ℕ, ◌+◌, ◌^◌, ◌-◌, Bool, true, false, List, [], ◌∷◌, ◌++◌, min, Option, Some, None, refl, sym, ap, arith, ◌∙◌, inl, inr, append_assoc, if◌then◌else◌, bytes_eq, cases_Bool, bytes_eq-Decides, Tally, begun, capped, grown, tallied, tally, tally_after, Request, State, done, nothing, skipped, taken, with_waiting, append-nil, nat_list_eq_equiv, Work, Query}
use Rattle.pgtrace_summary.proofs.Places.{turned}
use Rattle.pgtrace_summary.specs.Calls.{AreApart, Call, Ask, Row, End, Fail, after, all_of, called, found, run_by, run_in, run_of, runs_in, said_of, stands_in, times_of}

-- ---- calls

did_tally : (w : Work) (r : Request) (sent now : ℕ) (waiting : List Request) (s : State) → (done (Some (record { number = r.number; work = w; first = r.first; second = r.second })) sent now (with_waiting waiting s)).tallies ≡ tally_after s.tallies (run_by w r sent now s)
did_tally Query r sent now waiting s = refl
did_tally w r sent now waiting s = refl

done_tally : (o : Option Request) (sent now : ℕ) (waiting : List Request) (s : State) → (done o sent now (with_waiting waiting s)).tallies ≡ tally_after s.tallies (run_of o sent now s)
done_tally None sent now waiting s = refl
done_tally (Some r) sent now waiting s = did_tally r.work r sent now waiting s

call_tally : (call : Call) (s : State) → (called call s).tallies ≡ tally_after s.tallies (run_in call s)
call_tally (Ask request) s = refl
call_tally (Row number) s = refl
call_tally (Fail number) s = refl
call_tally (End number reply sent now) s = done_tally (taken number reply (skipped number s.waiting)).0 sent now (taken number reply (skipped number s.waiting)).1 s

pub tally_join : (tallies : List Tally) (xs ys : List Tally) → tally_after (tally_after tallies xs) ys ≡ tally_after tallies (xs ++ ys)
tally_join tallies [] ys = refl
tally_join tallies (x ∷ xs) ys = tally_join (tallied x tallies) xs ys

calls_tally : (s : State) (calls : List Call) → (after s calls).tallies ≡ tally_after s.tallies (runs_in s calls)
calls_tally s [] = refl
calls_tally s (call ∷ more) =
    calls_tally (called call s) more ∙ ap (λ l. tally_after l (runs_in (called call s) more)) (call_tally call s) ∙ tally_join s.tallies (run_in call s) (runs_in (called call s) more)

pub all_tallied : (folds : Bool) (calls : List Call) → (after (nothing folds) calls).tallies ≡ tally (runs_in (nothing folds) calls)
all_tallied folds calls = calls_tally (nothing folds) calls

-- ---- statements

pub same_text : (x y : List ℕ) → bytes_eq x y ≡ true → x ≡ y
same_text x y e = (bytes_eq-Decides x y).0 e

-- one that differs from one of two that are the same differs from the other
apart : (x s name : List ℕ) → bytes_eq x s ≡ false → bytes_eq x name ≡ true → bytes_eq s name ≡ false
apart x s name other is = nat_list_eq_equiv.symm s name ∙ sym (nat_list_eq_equiv.congr x name s is) ∙ other

-- the statement of a run has it more
abbrev joined : Tally → Option Tally → Tally
joined run None = begun run
joined run (Some e) = grown run e

both_ways : (b : Bool) (run : Tally) (e : Tally) (x : Option Tally) → (if b then Some (grown run e) else x) ≡ (if b then Some (joined run (if b then Some e else x)) else (if b then Some e else x))
both_ways true run e x = refl
both_ways false run e x = refl

found_more : (text : List ℕ) (run : Tally) (tallies : List Tally) → found text (tallied run tallies) ≡ (if bytes_eq run.text text then Some (joined run (found text tallies)) else found text tallies)
found_more text run [] = refl
found_more text run (e ∷ more) =
    elim (cases_Bool (bytes_eq e.text run.text)) [
      | inl same ↦ (let t : bytes_eq e.text text ≡ bytes_eq run.text text = ap (λ n. bytes_eq n text) (same_text e.text run.text same) in rw (same, t) (both_ways (bytes_eq run.text text) run e (found text more)))
      | inr other ↦ rw other (elim (cases_Bool (bytes_eq e.text text)) [
        | inl here ↦ rw (here, apart e.text run.text text other here) refl
        | inr there ↦ rw there (found_more text run more)
      ])
    ]

abbrev joined_all : List ℕ → Option Tally → List Tally → Option Tally
joined_all text o [] = o
joined_all text o (run ∷ more) = joined_all text (if bytes_eq run.text text then Some (joined run o) else o) more

found_all : (text : List ℕ) (tallies : List Tally) (runs : List Tally) → found text (tally_after tallies runs) ≡ joined_all text (found text tallies) runs
found_all text tallies [] = refl
found_all text tallies (run ∷ more) = found_all text (tallied run tallies) more ∙ ap (λ o. joined_all text o more) (found_more text run tallies)

capped_sum : (m n k : ℕ) → m ≡ min n (2 ^ 64 - 1) → min (m + k) (2 ^ 64 - 1) ≡ min (n + k) (2 ^ 64 - 1)
capped_sum m n k e = omega (arith, e)

abbrev tally_with : List ℕ → (rows : ℕ) → List ℕ → (total errors : ℕ) → Option Tally
tally_with text rows times total errors = Some (record { text = text; rows = rows; times = times; total = total; errors = errors })

some_joined : (text : List ℕ) (e : Tally) (rows total errors : ℕ) (runs : List Tally) → e.text ≡ text → e.rows ≡ capped rows → e.total ≡ capped total → e.errors ≡ capped errors
    → joined_all text (Some e) runs ≡ tally_with text (capped (rows + all_of (λ r. r.rows) text runs)) (e.times ++ times_of text runs) (capped (total + all_of (λ r. r.total) text runs)) (capped (errors + all_of (λ r. r.errors) text runs))
some_joined text e rows total errors [] is a b c = λ i. tally_with (is i) ((a ∙ no_more rows) i) (sym (append-nil e.times) i) ((b ∙ no_more total) i) ((c ∙ no_more errors) i)
  where
    no_more : (n : ℕ) → capped n ≡ capped (n + 0)
    no_more n = ap capped (omega arith)
some_joined text e rows total errors (run ∷ more) is a b c =
    elim (cases_Bool (bytes_eq run.text text)) [
      | inl same ↦ rw same (some_joined text (grown run e) (rows + run.rows) (total + run.total) (errors + run.errors) more is
          (capped_sum e.rows rows run.rows a) (capped_sum e.total total run.total b) (capped_sum e.errors errors run.errors c)
          ∙ (λ i. tally_with text (capped (sum_apart rows run.rows (all_of (λ r. r.rows) text more) i)) (append_assoc e.times (run.times) (times_of text more) i)
          (capped (sum_apart total run.total (all_of (λ r. r.total) text more) i)) (capped (sum_apart errors run.errors (all_of (λ r. r.errors) text more) i))))
      | inr other ↦ rw other (some_joined text e rows total errors more is a b c)
    ]
  where
    sum_apart : (x y z : ℕ) → (x + y) + z ≡ x + (y + z)
    sum_apart x y z = omega arith

none_joined : (text : List ℕ) (runs : List Tally) → joined_all text None runs ≡ said_of text runs
none_joined text [] = refl
none_joined text (run ∷ more) =
    elim (cases_Bool (bytes_eq run.text text)) [
      | inl same ↦ rw same (some_joined text (begun run) run.rows run.total run.errors more (same_text run.text text same) (ap capped (omega arith)) (ap capped (omega arith)) (ap capped (omega arith)))
      | inr other ↦ rw other (none_joined text more)
    ]

pub all_found : (runs : List Tally) (text : List ℕ) → found text (tally runs) ≡ said_of text runs
all_found runs text = found_all text [] runs ∙ none_joined text runs

-- ---- apart

pub stands_kept : (text : List ℕ) (run : Tally) (tallies : List Tally) → bytes_eq run.text text ≡ false → stands_in text (tallied run tallies) ≡ stands_in text tallies
stands_kept text run [] other = rw other refl
stands_kept text run (e ∷ more) other =
    elim (cases_Bool (bytes_eq e.text run.text)) [
      | inl same ↦ rw same refl
      | inr differs ↦ rw differs (ap (λ b. if bytes_eq e.text text then true else b) (stands_kept text run more other))
    ]

pub apart_more : (run : Tally) (tallies : List Tally) → AreApart tallies → AreApart (tallied run tallies)
apart_more run [] a = (refl, tt)
apart_more run (e ∷ more) a =
    elim (cases_Bool (bytes_eq e.text run.text)) [
      | inl same ↦ rw same a
      | inr differs ↦ rw differs (stands_kept e.text run more (turned e.text run.text false differs) ∙ a.0, apart_more run more a.1)
    ]

apart_after : (tallies : List Tally) (runs : List Tally) → AreApart tallies → AreApart (tally_after tallies runs)
apart_after tallies [] a = a
apart_after tallies (run ∷ more) a = apart_after (tallied run tallies) more (apart_more run tallies a)

pub all_apart : (runs : List Tally) → AreApart (tally runs)
all_apart runs = apart_after [] runs tt
