use Rattle.for_c_auth.proofs.Common.{rules, inr}
use Rattle.for_c_auth.proofs.Texts.{answers_kept, delivers_another, no_room}
use Rattle.for_c_auth.proofs.exchange.updated.Goals.{then-code-eq0, else-code-eq0}
use Rattle.for_c_auth.proofs.exchange.updated.Goals as goal

pub returns-clause-sent : goal.returns-clause-sent
returns-clause-sent g c z = elim c.if-code-eq0.branch [
  | then-code-eq0 w ↦
      rw w.kept-is (delivers_another _ _ _ (λ text says. answers_kept _ c.args.server_first.now text c.in-Some.signature c.in-Ok.client c.in-Ok.ensures.ok says (search rules)) (c.hand_over-code.ensures.sent z))
  | else-code-eq0 w ↦ absurd (w.if-code-eq0.false z)
]

pub returns-clause-why : goal.returns-clause-why
returns-clause-why g c z =
    inr (no_room _ c.args.server_first.now c.args.out.now c.in-Ok.client _ _ c.in-Ok.ensures.ok (c.hand_over-code.ensures.longer z) (c.hand_over-code.ensures.refused z).0 (search rules))
