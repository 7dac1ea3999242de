use Rattle.pgp_frontend.proofs.Common.{Query}
use Rattle.pgp_frontend.proofs.Fitting.{fits_written}
use Rattle.pgp_frontend.proofs.laws.query_that_fits.Goals as goal

pub returns : goal.returns
returns c = fits_written (Query c.args.text.now) _ _ c.query.result c.query.ensures c.requires.none c.requires.fits
