use Rattle.pgp_client.proofs.Tags.{tags_agree}
use Rattle.pgp_client.proofs.laws.tags_say_what_is_asked.Goals as goal

pub returns : goal.returns
returns c = tags_agree
