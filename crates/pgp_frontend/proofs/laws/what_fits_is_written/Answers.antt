use Rattle.pgp_frontend.proofs.Fitting.{fits_written}
use Rattle.pgp_frontend.proofs.laws.what_fits_is_written.Goals as goal

pub returns : goal.returns
returns c = fits_written
