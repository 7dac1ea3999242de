use Rattle.pgp_session.proofs.Bounds.{bounded}
use Rattle.pgp_session.proofs.laws.what_is_kept_is_bounded.Goals as goal

pub returns : goal.returns
returns c = bounded c.one_header.ensures.spelled
