use Rattle.pgp_session.proofs.Ending.{below_ended}
use Rattle.pgp_session.proofs.laws.names_below_have_ended.Goals as goal

pub returns : goal.returns
returns c = λ ways h now. below_ended ways h now c.every_request_ends_once.ensures.once c.first_open_requests_are_told.ensures.first c.first_open_requests_are_told.ensures.numbers
