use Rattle.pgtrace_summary.proofs.Common.{◌≡◌, length, skipped}
use Rattle.pgtrace_summary.proofs.waiting.skip.Given as goal

abbrev pub invariant-each : goal.invariant-each
invariant-each g l = skipped l.number l.waiting.items ≡ skipped l.fn.number l.fn.waiting.items

abbrev pub decreases-each : goal.decreases-each
decreases-each g l = length l.waiting.items
