use Rattle.pgp_session.proofs.Common.{None, Ok, Err, subst, option_map, Step, parsed, view, Reads}
use Rattle.pgp_session.proofs.Incomings.{not_read, read_again}
use Rattle.pgp_session.proofs.connection.Connection.message.Goals as goal

pub returns-in-Ok : goal.returns-in-Ok
returns-in-Ok g c =
    let frame = c.current.result.now in
    let step = subst (λ l. Step ⊥ l (parsed (Ok c.in-Ok.message)) c.next.new.self) c.new.ensures c.in-Ok.ensures.step in
    subst (λ l. Reads l (option_map view c.in-Ok.message)) c.current.ensures.current (read_again frame c.next.new.self c.in-Ok.message c.current.ensures.frame step)

pub returns-in-Err : goal.returns-in-Err
returns-in-Err g c =
    let frame = c.current.result.now in
    let step = subst (λ l. Step ⊥ l (Err c.in-Err.field-0) c.next.new.self) c.new.ensures c.in-Err.ensures.step in
    subst (λ l. Reads l None) c.current.ensures.current (not_read frame c.next.new.self c.in-Err.field-0 c.current.ensures.frame step)
