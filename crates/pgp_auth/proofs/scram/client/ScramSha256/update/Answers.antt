use Rattle.pgp_auth.proofs.Common.{refl, sym, ap, if_err_at, state_of, begun_of, answered_of}
use Rattle.pgp_auth.proofs.Steps.{due_of, hmacs_of, over_of, update_answers, update_refused}
use Rattle.pgp_auth.proofs.scram.client.ScramSha256.update.Goals as goal

pub returns-in_err-answer-clause-err : goal.returns-in_err-answer-clause-err
returns-in_err-answer-clause-err g c =
    let due = due_of _ _ _ c.self.view_is (ap state_of (sym c.in-AwaitsFirst.ensures.value)) in
    if_err_at c.from_residual.result _ _ c.from_residual.ensures.1
    (update_refused _ _ _ c.args.message.now _ (begun_of c.in-AwaitsFirst.start) c.self.inside.made due (hmacs_of _ _ c.self.view_is) (over_of c.replace.new.dest c.in-AwaitsFirst.ensures.after) c.in_err-answer.ensures.err)

pub returns-clause-ok : goal.returns-clause-ok
returns-clause-ok g c =
    let due = due_of _ _ _ c.self.view_is (ap state_of (sym c.in-AwaitsFirst.ensures.value)) in
    update_answers _ _ c.args.message.now (begun_of c.in-AwaitsFirst.start) (answered_of c.in_ok-answer.field-0) c.self.inside.made c.respond-answer.new.made due (hmacs_of _ _ c.self.view_is) c.in_ok-answer.ensures.ok refl
