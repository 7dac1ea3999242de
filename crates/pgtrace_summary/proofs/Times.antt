-- The times of runs don't overlap.
use Rattle.pgtrace_summary.proofs.Common.{ℕ, ◌+◌, ◌≤◌, List, [], ◌∷◌, ◌++◌, Option, Some, None, arith, Tally, Request, State, did, done, skipped, taken, with_waiting, Work, Parse, Bind, ended, error_of, failed, first_of, sum_by-append, max}
use Rattle.pgtrace_summary.specs.Calls.{Call, End, Fail, GoesOn, after, called, run_by, run_of, runs_in, time_of}

-- the times of these runs fit between the last ends of two states, and the second is no later than now
abbrev Fit : (first now : ℕ) → List Tally → (s t : State) → Type 0
Fit first now runs s t = (time_of runs + max first s.last_end ≤ max first t.last_end) × (t.last_end ≤ now)

did_fits : (w : Work) (r : Request) (first sent now : ℕ) (waiting : List Request) (s : State) → first ≤ sent → s.last_end ≤ now → Fit first now (run_by w r sent now s) s (did w r sent now (with_waiting waiting s))
did_fits Parse r first sent now waiting s since on = (omega arith, on)
did_fits Bind r first sent now waiting s since on = (omega arith, on)
did_fits w r first sent now waiting s since on = (omega (arith, since, on), omega arith)

done_fits : (o : Option Request) (first sent now : ℕ) (waiting : List Request) (s : State) → first ≤ sent → s.last_end ≤ now → Fit first now (run_of o sent now s) s (done o sent now (with_waiting waiting s))
done_fits None first sent now waiting s since on = (omega arith, on)
done_fits (Some r) first sent now waiting s since on = did_fits r.work r first sent now waiting s since on

no_time : (o : Option Request) (s : State) (n : ℕ) → time_of (error_of o s) + n ≤ n
no_time None s n = omega arith
no_time (Some r) s n = omega arith

join : (xs ys : List Tally) (a b c : ℕ) → time_of xs + a ≤ b → time_of ys + b ≤ c → time_of (xs ++ ys) + a ≤ c
join xs ys a b c h k = grind (arith, sum_by-append, h, k)

pub all_fit : (first before : ℕ) (s : State) (calls : List Call) → s.last_end ≤ before → GoesOn first before calls → time_of (runs_in s calls) + max first s.last_end ≤ max first (after s calls).last_end
all_fit first before s [] on g = omega arith
all_fit first before s (Fail number ∷ more) on g = join (error_of (first_of number (skipped number s.waiting)) s) (runs_in (failed number s) more) _ _ _ (no_time _ s _) (all_fit first before (failed number s) more on g)
all_fit first before s (End number reply sent now ∷ more) on g =
    let x = taken number reply (skipped number s.waiting) in
    let here = done_fits x.0 first sent now x.1 s g.0 (let h = g.1 in omega (arith, on, h)) in
    join (run_of x.0 sent now s) (runs_in (ended number reply sent now s) more) _ _ _ here.0 (all_fit first now (ended number reply sent now s) more here.1 g.2)
all_fit first before s (call ∷ more) on g = all_fit first before (called call s) more on g
