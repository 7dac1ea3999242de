use Rattle.pgp_message.proofs.Headers.{fits_grows}
use Rattle.pgp_message.proofs.laws.bytes_may_come.Goals as goal

pub returns : goal.returns
returns c = fits_grows
