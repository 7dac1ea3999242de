use Rattle.pgp_session.proofs.Common.{ap, ◌∙◌, begun, in_state, with_incoming, Waiting, given}
use Rattle.pgp_session.proofs.connection.Connection.new.Goals as goal

pub returns : goal.returns
returns g c =
    let start = begun (given c.args.ways) c.args.limit in
    ap (λ (i : Waiting). with_incoming i.rest (in_state c.new.result start)) c.new-2.ensures ∙ c.new.ensures c.args.limit
