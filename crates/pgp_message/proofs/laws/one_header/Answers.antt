use Rattle.pgp_message.proofs.Fronts.{header_there}
use Rattle.pgp_message.proofs.Headers.{header_spelled, header_of_short}
use Rattle.pgp_message.proofs.laws.one_header.Goals as goal

pub returns-clause-spelled : goal.returns-clause-spelled
returns-clause-spelled c = header_spelled

pub returns-clause-short : goal.returns-clause-short
returns-clause-short c = header_of_short

pub returns-clause-long : goal.returns-clause-long
returns-clause-long c = header_there
