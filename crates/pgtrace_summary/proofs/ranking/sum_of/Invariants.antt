-- The sum so far.
use Rattle.pgtrace_summary.proofs.Common.{◌≡◌, take, sum_of}
use Rattle.pgtrace_summary.proofs.ranking.sum_of.Given as goal

abbrev pub invariant-loop-entry : goal.invariant-loop-entry
invariant-loop-entry g l = l.sum ≡ sum_of (take l.entry-index l.entries)
