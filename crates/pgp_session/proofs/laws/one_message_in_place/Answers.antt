use Rattle.pgp_session.proofs.Incomings.{one_message}
use Rattle.pgp_session.proofs.laws.one_message_in_place.Goals as goal

pub returns : goal.returns
returns c = λ frame first second. one_message frame first second
