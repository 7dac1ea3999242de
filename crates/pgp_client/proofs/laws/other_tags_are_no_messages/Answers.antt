use Rattle.pgp_client.proofs.Tags.{no_kind}
use Rattle.pgp_client.proofs.laws.other_tags_are_no_messages.Goals as goal

pub returns : goal.returns
returns c = no_kind
