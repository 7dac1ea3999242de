use Rattle.for_c.proofs.Common.{◌≡◌, true, take, list_all, is_named}
use Rattle.for_c.proofs.opening.are_named.Given as goal

abbrev pub invariant-loop-pair : goal.invariant-loop-pair
invariant-loop-pair l = list_all is_named (take l.pair-index l.parameters) ≡ true
