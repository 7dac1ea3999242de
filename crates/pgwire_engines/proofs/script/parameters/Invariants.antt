use Rattle.pgwire_engines.proofs.Common.{map, shown, ArePairs}
use Rattle.pgwire_engines.proofs.script.parameters.Given as goal

abbrev pub invariant-loop-part : goal.invariant-loop-part
invariant-loop-part g l =
    (goal.iterator-loop-part g).can_next l.part-iterator ×
    (goal.iterator-loop-part g).is_finite l.part-iterator ×
    ArePairs (map (λ part. part.now) l.yielded) (map shown l.list.items)
