use Rattle.pgp_session.proofs.Common.{◌≡◌, ◌≢◌, true, Some, Ok, Err, length, take, rules, refl, sym, ap, subst, ◌-◌, ◌∙◌, IsPartial, Step, TakesFrame, view, OutOfTurn, IsLonger, IsCut, is_longer, limit_of, Started, shown, with_incoming, Reads}
use Rattle.pgp_session.proofs.Connections.{advanced, malformed_at, not_advanced, so_far, step_none, step_some, stopped_at}
use Rattle.pgp_session.proofs.Incomings.{frame_there}
use Rattle.pgp_session.proofs.connection.Connection.advance.Goals as goal

pub returns-then-ne : goal.returns-then-ne
returns-then-ne g c =
    let apart : c.args.self.now.state.phase ≢ Started = search rules in
    not_advanced g.A.Memory.Lacks (shown c.args.self.now) _ c.pass.new.self.rest _ _ c.pass.ensures.rest c.pass.ensures.current (λ p. cc) (λ m i. apart i.0) (OutOfTurn apart refl)

pub returns-then-is_too_long : goal.returns-then-is_too_long
returns-then-is_too_long g c =
    let long : is_longer (limit_of (shown c.args.self.now)) c.pass.new.self.rest ≡ true = search rules in
    not_advanced g.A.Memory.Lacks (shown c.args.self.now) _ c.pass.new.self.rest _ _ c.pass.ensures.rest c.pass.ensures.current (λ p. cc) (λ m i. let no = sym long ∙ i.1 in cc) (IsLonger (search rules) long refl)

pub take-requires-clause-frame : goal.take-requires-clause-frame
take-requires-clause-frame g c =
    let all = c.pass.new.self.rest in
    let rest = c.next.new.self in
    let m = view c.in-Ok-Some.message in
    let step = step_some ⊥ c.new-messages.result rest c.in-Ok-Some.field-0 c.in-Ok-Some.message c.in-Ok-Some.field-0-is c.in-Ok-Some.ensures.step in
    let t = subst (λ l. TakesFrame l (Ok m) rest) (c.new-messages.ensures ∙ c.rest.ensures) step in
    (Some m, subst (λ n. Reads (take (length all - n) all) (Some m)) (sym (ap length c.rest-left.ensures)) (frame_there all rest m t))

pub returns-in-Ok-None : goal.returns-in-Ok-None
returns-in-Ok-None g c =
    let s = step_none ⊥ c.new-messages.result c.next.new.self c.in-Ok-None.field-0 c.in-Ok-None.field-0-is c.in-Ok-None.ensures.step in
    let cut = subst IsPartial (c.new-messages.ensures ∙ c.rest.ensures) s.0 in
    (c.pass.ensures.current, so_far g.A.Memory.Lacks (shown c.args.self.now) _ c.pass.new.self.rest _ c.pass.ensures.rest (IsCut (search rules) (search rules) cut refl))

pub returns-in-Ok : goal.returns-in-Ok
returns-in-Ok g c =
    let rest = c.next.new.self in
    let m = view c.in-Ok-Some.message in
    let step = step_some ⊥ c.new-messages.result rest c.in-Ok-Some.field-0 c.in-Ok-Some.message c.in-Ok-Some.field-0-is c.in-Ok-Some.ensures.step in
    let t = subst (λ l. TakesFrame l (Ok m) rest) (c.new-messages.ensures ∙ c.rest.ensures) step in
    advanced g.A.Memory.Lacks (shown c.args.self.now) _ c.pass.new.self.rest rest c.take.new.self.current c.take.new.self.rest (length c.rest-left.result.now) c.pass.ensures.rest (ap length c.rest-left.ensures) c.take.ensures.rest m c.in-Ok.event (search rules) (search rules) t c.take.ensures.current (c.in-Ok.ensures (with_incoming c.take.new.self.rest (shown c.args.self.now)))

pub returns-in-Err-heard : goal.returns-in-Err-heard
returns-in-Err-heard g c =
    let rest = c.next.new.self in
    let m = view c.in-Ok-Some.message in
    let step = step_some ⊥ c.new-messages.result rest c.in-Ok-Some.field-0 c.in-Ok-Some.message c.in-Ok-Some.field-0-is c.in-Ok-Some.ensures.step in
    let t = subst (λ l. TakesFrame l (Ok m) rest) (c.new-messages.ensures ∙ c.rest.ensures) step in
    stopped_at g.A.Memory.Lacks (shown c.args.self.now) _ c.pass.new.self.rest rest c.take.new.self.current c.take.new.self.rest (length c.rest-left.result.now) c.pass.ensures.rest (ap length c.rest-left.ensures) c.take.ensures.rest m c.in-Err-heard.e (search rules) (search rules) t c.take.ensures.current (c.in-Err-heard.ensures (with_incoming c.take.new.self.rest (shown c.args.self.now)))

pub returns-in-Err : goal.returns-in-Err
returns-in-Err g c =
    let rest = c.next.new.self in
    let step = subst (λ l. Step ⊥ l (Err c.in-Err.e) rest) (c.new-messages.ensures ∙ c.rest.ensures) c.in-Err.ensures.step in
    malformed_at g.A.Memory.Lacks (shown c.args.self.now) _ c.pass.new.self.rest rest c.leave.new.self.current c.leave.new.self.rest (length c.rest-left-in-Err.result.now) c.pass.ensures.rest (ap length c.rest-left-in-Err.ensures) c.leave.ensures.rest c.in-Err.e (search rules) (search rules) step c.leave.ensures.current refl
