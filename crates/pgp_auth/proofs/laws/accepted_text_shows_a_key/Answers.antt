use Rattle.pgp_auth.proofs.ShownKeys.{admitted_shows}
use Rattle.pgp_auth.proofs.laws.accepted_text_shows_a_key.Goals as goal

pub returns : goal.returns
returns c = λ old new text answer a. admitted_shows old new text answer a
