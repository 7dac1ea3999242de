use Rattle.pgtrace_summary.proofs.Sorting.{sorted_is}
use Rattle.pgtrace_summary.proofs.entry.sorted.Goals as goal

pub returns-clause-sorted : goal.returns-clause-sorted
returns-clause-sorted g c = sorted_is c.args.times.now c.in_ok-all.all.items c.sort_unstable.new.self.items c.in_ok-all.ensures.items c.sort_unstable.ensures.permutation c.sort_unstable.ensures.sorted
