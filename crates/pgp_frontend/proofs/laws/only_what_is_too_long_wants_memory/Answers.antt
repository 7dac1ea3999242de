use Rattle.pgp_frontend.proofs.Common.{wants_window}
use Rattle.pgp_frontend.proofs.Fitting.{too_long}
use Rattle.pgp_frontend.proofs.laws.only_what_is_too_long_wants_memory.Goals as goal

pub returns-clause-wants : goal.returns-clause-wants
returns-clause-wants c = wants_window

pub returns-clause-longer : goal.returns-clause-longer
returns-clause-longer c = too_long
