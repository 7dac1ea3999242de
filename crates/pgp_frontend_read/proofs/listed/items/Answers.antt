use Rattle.pgp_frontend_read.proofs.Common.{arith}
use Rattle.pgp_frontend_read.proofs.listed.items.Goals as goal

pub returns-clause-bytes : goal.returns-clause-bytes
returns-clause-bytes c = λ i. omega (arith, c.type_inv.bytes i)
