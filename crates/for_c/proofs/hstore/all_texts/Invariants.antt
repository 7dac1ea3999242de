use Rattle.for_c.proofs.Common.{◌≡◌, true, take, list_all, are_texts}
use Rattle.for_c.proofs.hstore.all_texts.Given as goal

abbrev pub invariant-loop-pair : goal.invariant-loop-pair
invariant-loop-pair l = list_all are_texts (take l.pair-index l.pairs) ≡ true
