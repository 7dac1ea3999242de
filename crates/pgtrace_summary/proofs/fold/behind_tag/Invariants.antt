use Rattle.pgtrace_summary.proofs.Common.{◌≡◌, length, behind_tag}
use Rattle.pgtrace_summary.proofs.fold.behind_tag.Given as goal

abbrev pub invariant-bytes : goal.invariant-bytes
invariant-bytes l = behind_tag l.rest ≡ behind_tag l.fn.bytes

abbrev pub decreases-bytes : goal.decreases-bytes
decreases-bytes l = length l.rest
