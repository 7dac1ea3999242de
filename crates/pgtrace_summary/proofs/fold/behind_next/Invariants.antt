use Rattle.pgtrace_summary.proofs.Common.{◌≡◌, length, behind_next}
use Rattle.pgtrace_summary.proofs.fold.behind_next.Given as goal

abbrev pub invariant-bytes : goal.invariant-bytes
invariant-bytes l = behind_next l.tag l.rest ≡ behind_next l.tag l.fn.bytes

abbrev pub decreases-bytes : goal.decreases-bytes
decreases-bytes l = length l.rest
