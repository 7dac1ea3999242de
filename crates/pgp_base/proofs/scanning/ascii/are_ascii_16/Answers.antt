use Rattle.pgp_base.proofs.Common.{arith, eqb-true}
use Rattle.pgp_base.proofs.AsciiLemmas.{ascii_of_mask}
use Rattle.pgp_base.proofs.scanning.ascii.are_ascii_16.Goals as goal

pub returns : goal.returns
returns c none = ascii_of_mask c.args.bytes.now c.args.at 16 (omega arith) (omega arith) (eqb-true _ _ none)
