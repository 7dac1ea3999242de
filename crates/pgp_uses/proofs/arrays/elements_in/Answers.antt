use Rattle.pgp_uses.proofs.Common.{rules}
use Rattle.pgp_types.specs.Part.{shown}
use Rattle.pgp_uses.proofs.Elements.{one_read}
use Rattle.pgp_uses.proofs.arrays.elements_in.Goals as goal

pub elements-preserved : goal.elements-preserved
elements-preserved g c =
    one_read g.V.Value.meaning g.V.Value.format c.args.elements c.elements.elements c.next.new.self c.elements.values.items c.push.new.list.items (shown c.in-Ok-Some.element) c.in-Ok.value c.elements.invariant (search rules) (search rules) (search rules)
