use Rattle.pgp_frontend_read.proofs.OneFault.{one_fault}
use Rattle.pgp_frontend_read.proofs.laws.one_first_fault.Goals as goal

pub returns : goal.returns
returns c = one_fault
