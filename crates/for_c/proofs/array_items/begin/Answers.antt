use Rattle.for_c.proofs.Common.{rules, refl}
use Rattle.for_c.proofs.ArrayItems.{begun, behind_head}
use Rattle.for_c.proofs.array_items.begin.Goals as goal

pub returns-clause-begun : goal.returns-clause-begun
returns-clause-begun c z p are is =
    begun c.args.element_type c.args.dimensions.now c.args.out.now _ _ (c.write_array-code.ensures.wrote (search rules)) p c.args.count are is

pub returns-clause-behind : goal.returns-clause-behind
returns-clause-behind c z = behind_head c.args.element_type c.args.dimensions.now c.args.out.now _ _ (c.write_array-code.ensures.wrote (search rules))

pub returns-then-code-ne0-clause-refused : goal.returns-then-code-ne0-clause-refused
returns-then-code-ne0-clause-refused c z = let k = c.write_array-code.ensures.refused z in record { length_is = refl; why = k.why }
