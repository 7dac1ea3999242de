use Rattle.pgp_uses.proofs.Common.{length}
use Rattle.pgp_uses.proofs.Elements.{HasRead}
use Rattle.pgp_uses.proofs.arrays.elements_in.Given as goal

abbrev pub invariant-elements : goal.invariant-elements
invariant-elements g l = HasRead g.V.Value.meaning g.V.Value.format l.fn.elements l.values.items l.elements

abbrev pub decreases-elements : goal.decreases-elements
decreases-elements g l = length l.elements.items
