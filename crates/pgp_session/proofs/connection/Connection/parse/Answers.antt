use Rattle.pgp_session.proofs.Common.{◌≡◌, ◌∙◌, true, rules, ap, subst, request_of, awaits_data, is_copying, Parse, bytes_of, Notes, may_ask, may_send, shown, with_out}
use Rattle.pgp_session.proofs.Connections.{given_by, none_awaited}
use Rattle.pgp_base.proofs.Parts.{lengthened_by}
use Rattle.pgp_session.proofs.connection.Connection.parse.Goals as goal

pub returns-in-Ok-clause-sends : goal.returns-in-Ok-clause-sends
returns-in-Ok-clause-sends g c =
    let e = c.in-Ok.ensures in
    let old = shown c.args.self.now in
    let asks : may_ask old ≡ true = search rules in
    given_by g.A.Memory.Lacks _ _ e.message Parse old (shown c.asked.new.self) c.parse.new.buf.items c.asked.result e.whole (ap (may_send (is_copying old.talk) (awaits_data old.talk)) e.whole.2 ∙ none_awaited old asks) e.none e.in_range (ap request_of e.whole.2) asks
    (lengthened_by c.args.self.now.state.out.items c.parse.new.buf.items (bytes_of e.message) e.appended)
    (subst (λ n. Notes g.A.Memory.Lacks n Parse (with_out c.parse.new.buf.items old) (shown c.asked.new.self) c.asked.result) c.len-start.ensures.value c.asked.ensures.notes)
