use Rattle.pgp_base.proofs.Needs.{wants_window}
use Rattle.pgp_base.proofs.Fitting.{fits_written, too_long, only_too_long}
use Rattle.pgp_base.proofs.laws.what_fits_is_written.Goals as goal

pub returns : goal.returns
returns c = record { wants = wants_window; fits = fits_written; longer = too_long; only = only_too_long }
