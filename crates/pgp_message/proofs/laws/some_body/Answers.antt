use Rattle.pgp_message.proofs.Common.{body_of}
use Rattle.pgp_message.proofs.Bodies.{body_is}
use Rattle.pgp_message.proofs.laws.some_body.Goals as goal

pub returns : goal.returns
returns c = λ tag payload h. (body_of tag payload, body_is tag payload h)
