use Rattle.pgp_saslprep.proofs.Ascii.{plain_stays}
use Rattle.pgp_saslprep.proofs.laws.plain_ascii_stays.Goals as goal

pub returns : goal.returns
returns c = plain_stays
