use Rattle.pgp_uses.proofs.Common.{view, shown}
use Rattle.pgp_uses.proofs.Connected.{is_so, none_given, some_given}
use Rattle.pgp_uses.proofs.client.next_row.Goals as goal

pub returns-in-Ok-None : goal.returns-in-Ok-None
returns-in-Ok-None g c = none_given g.A.Memory.Lacks (shown c.args.connection.now) (shown c.next.new.self) c.in-Ok-None.field-0 c.in-Ok-None.field-0-is c.in-Ok-None.ensures.next

pub returns-in-Ok-Some : goal.returns-in-Ok-Some
returns-in-Ok-Some g c =
    is_so c.args.name c.received_as.result (shown c.args.connection.now) (shown c.next.new.self) c.in-Ok-Some.event (view c.in-Ok-Some.message) c.received_as.ensures
    (some_given g.A.Memory.Lacks (shown c.args.connection.now) (shown c.next.new.self) c.in-Ok-Some.field-0 c.in-Ok-Some.event c.in-Ok-Some.message c.in-Ok-Some.field-0-is c.in-Ok-Some.ensures.next)
