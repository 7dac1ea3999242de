use Rattle.for_c.proofs.Common.{◌≡◌, true, take, list_all, has_value}
use Rattle.for_c.proofs.array.flag.Given as goal

abbrev pub invariant-loop-value : goal.invariant-loop-value
invariant-loop-value l = list_all has_value (take l.value-index l.elements) ≡ true
