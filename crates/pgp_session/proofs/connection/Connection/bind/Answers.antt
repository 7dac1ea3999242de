use Rattle.pgp_session.proofs.Common.{◌≡◌, ◌∙◌, true, rules, ap, refl, request_of, awaits_data, is_copying, Bind, may_ask, may_send, shown, with_out}
use Rattle.std.specs.Prelude.{List, ℕ}
use Rattle.pgp_session.proofs.Connections.{bound_by, none_awaited, taken_back}
use Rattle.pgp_session.proofs.connection.Connection.bind.Goals as goal

pub returns-then-not-may_ask-clause-sends : goal.returns-then-not-may_ask-clause-sends
returns-then-not-may_ask-clause-sends g c = (c.args.serializer, (search rules, refl))

pub returns-in-Some-clause-sends : goal.returns-in-Some-clause-sends
returns-in-Some-clause-sends g c =
    let old = shown c.args.self.now in
    let e = c.in-Ok.ensures.1 in
    let is = e.1.2.2.2.2 in
    let asks : may_ask old ≡ true = search rules in (
      c.in-Ok.ensures.0,
      bound_by _ e.0 Bind old (shown c.noted.new.self) c.put_bind.new.out.items c.in-Some.name e.1 (ap (may_send (is_copying old.talk) (awaits_data old.talk)) is ∙ none_awaited old asks) e.2 (ap request_of is) asks c.in-Some.ensures.noted.0 c.in-Some.ensures.noted.1,
    )

pub returns-in-None-clause-sends : goal.returns-in-None-clause-sends
returns-in-None-clause-sends g c =
    let e = c.in-Ok.ensures.1 in (
      c.in-Ok.ensures.0,
      (
        search rules,
        c.in-None.ensures.noted.0,
        taken_back e.0 (shown c.args.self.now) (shown c.noted.new.self) c.put_bind.new.out.items c.len-start.result c.len-start.ensures.value e.2 c.in-None.ensures.noted.1,
      ),
    )

pub returns-in-Err-clause-sends : goal.returns-in-Err-clause-sends
returns-in-Err-clause-sends g c = (
  c.in-Err.ensures.0,
  (search rules, c.in-Err.ensures.1.0, ap (λ (l : List ℕ). with_out l (shown c.args.self.now)) c.in-Err.ensures.1.1),
)
