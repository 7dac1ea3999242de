use Rattle.pgp_base.proofs.Common.{arith, take_rest}
use Rattle.pgp_base.proofs.CharacterLemmas.{further, no_further}
use Rattle.pgp_base.proofs.scanning.characters.are_characters.Goals as goal

pub fronts-preserved : goal.fronts-preserved
fronts-preserved c = further c.args.bytes.now c.fronts.at (omega arith) c.fronts.invariant.1 c.in-Some.len (rw take_rest at c.in-Some.ensures)

pub returns-in-None : goal.returns-in-None
returns-in-None c = (λ no. absurd cc, λ whole. absurd (no_further c.args.bytes.now c.fronts.at (omega arith) c.fronts.invariant.1 (rw take_rest at c.in-None.ensures) whole))
