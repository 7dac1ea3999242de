use Rattle.pgp_auth.proofs.Common.{sym, ap, state_of, answered_of}
use Rattle.pgp_auth.proofs.Steps.{due_of, hmacs_of, over_of, finished, finish_refused}
use Rattle.pgp_auth.proofs.scram.client.ScramSha256.finish.Goals as goal

pub returns-clause-ok : goal.returns-clause-ok
returns-clause-ok g c =
    let due = due_of _ _ _ c.self.view_is (ap state_of (sym c.in-AwaitsFinal.ensures.value)) in
    finished c.verify-outcome.result _ _ c.args.message.now (answered_of c.in-AwaitsFinal.signed) c.self.inside.made due (hmacs_of _ _ c.self.view_is) (over_of c.replace.new.dest c.in-AwaitsFinal.ensures.after) c.verify-outcome.ensures.ok c.verify-outcome.ensures.count

pub returns-clause-err : goal.returns-clause-err
returns-clause-err g c =
    let due = due_of _ _ _ c.self.view_is (ap state_of (sym c.in-AwaitsFinal.ensures.value)) in
    finish_refused _ c.verify-outcome.result _ _ c.args.message.now (answered_of c.in-AwaitsFinal.signed) c.self.inside.made due (hmacs_of _ _ c.self.view_is) (over_of c.replace.new.dest c.in-AwaitsFinal.ensures.after) c.verify-outcome.ensures.err
