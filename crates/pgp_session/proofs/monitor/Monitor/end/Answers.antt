use Rattle.pgp_session.proofs.Common.{ap, ℕ, List, true}
use Rattle.pgp_session.specs.Monitor.{Shown, shown}
use Rattle.pgp_session.proofs.MonitorSteps.{ends}
use Rattle.pgp_session.proofs.monitor.Monitor.end.Goals as goal

pub returns-clause-known : goal.returns-clause-known
returns-clause-known g c = λ requests kinds events gone w.
    let old = shown c.args.self.now in
    ends requests kinds events gone c.args.kept old (record { talk = old.talk; names = old.names; is_fresh = old.is_fresh; is_over = true; out = c.truncate.new.self.items })
    (ap (λ (l : List ℕ). let m : Shown = record { talk = old.talk; names = old.names; is_fresh = old.is_fresh; is_over = true; out = l } in m) c.truncate.ensures.items) w
