use Rattle.for_c_auth.proofs.Common.{inr}
use Rattle.for_c_auth.proofs.Texts.{first_text, delivers_another, no_room_first}
use Rattle.for_c_auth.proofs.exchange.first.Goals as goal

pub returns-in-Ok-clause-sent : goal.returns-in-Ok-clause-sent
returns-in-Ok-clause-sent g c z = delivers_another _ _ _ (λ text says. first_text _ c.in-Ok.client text c.in-Ok.ensures.ok says) (c.hand_over.ensures.sent z)

pub returns-in-Ok-clause-why : goal.returns-in-Ok-clause-why
returns-in-Ok-clause-why g c z =
    inr ((c.hand_over.ensures.refused z).0, no_room_first _ c.args.out.now c.in-Ok.client c.in-Ok.ensures.ok (c.hand_over.ensures.longer z))
