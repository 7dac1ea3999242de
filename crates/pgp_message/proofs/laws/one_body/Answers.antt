use Rattle.pgp_message.proofs.Common.{sym, ◌∙◌}
use Rattle.pgp_message.proofs.Bodies.{one_body}
use Rattle.pgp_message.proofs.laws.one_body.Goals as goal

pub returns : goal.returns
returns c = λ tag payload r s h p q. sym (one_body tag payload r h p) ∙ one_body tag payload s h q
