use Rattle.pgp_uses.proofs.Common.{[], ◌∷◌, codes, subst, Startup, Query, ClientRun, kinds_of}
use Rattle.pgp_uses.proofs.session.one_query.Goals as goal

pub returns-clause-run : goal.returns-clause-run
returns-clause-run g c =
    let user = Startup 0 ((codes "user", c.args.user.now) ∷ []) in
    let query = Query c.args.query.now in
    let first = c.in_ok-startup_message.ensures in
    let second = c.in_ok-query.ensures in
    let third = c.in_ok-terminate.ensures in
    let opened = subst (λ m. ClientRun (kinds_of m) (m ∷ []) c.startup_message.new.self.buf.items) first.1 (first.2.reads [] [] c.new-stream.ensures.run) in
    let asked = subst (λ m. ClientRun (kinds_of m) (user ∷ m ∷ []) c.query.new.self.buf.items) second.1 (second.2.reads [] (user ∷ []) opened) in
    subst (λ m. ClientRun (kinds_of m) (user ∷ query ∷ m ∷ []) c.terminate.new.self.buf.items) third.1 (third.2.reads [] (user ∷ query ∷ []) asked)
