use Rattle.pgp_saslprep.proofs.Ascii.{used_as_it_is}
use Rattle.pgp_saslprep.proofs.laws.ascii_is_used_as_it_is.Goals as goal

pub returns : goal.returns
returns c = used_as_it_is
