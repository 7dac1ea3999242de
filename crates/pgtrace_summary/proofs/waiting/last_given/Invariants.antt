use Rattle.pgtrace_summary.proofs.Common.{◌≡◌, last_given}
use Rattle.pgtrace_summary.proofs.waiting.last_given.Given as goal

abbrev pub invariant-back : goal.invariant-back
invariant-back g l = last_given l.reply l.name l.behind l.waiting.items ≡ last_given l.fn.reply l.fn.name l.fn.count l.fn.waiting.items

abbrev pub decreases-back : goal.decreases-back
decreases-back g l = l.behind
