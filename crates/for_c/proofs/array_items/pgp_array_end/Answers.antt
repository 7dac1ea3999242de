use Rattle.for_c.proofs.Common.{rules}
use Rattle.for_c.proofs.ArrayItems.{array_ended}
use Rattle.for_c.proofs.array_items.pgp_array_end.Goals as goal

pub returns-clause-wrote : goal.returns-clause-wrote
returns-clause-wrote c z t ds vs a = array_ended t ds vs c.args.out.now c.set_word.new.out c.args.items.now _ (search rules) c.null_flag.ensures c.set_word.ensures a
