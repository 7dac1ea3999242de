use Rattle.pgp_message.proofs.Common.{rules}
use Rattle.pgp_message.proofs.TextBodies.{notification_is, notification_long, notification_fits}
use Rattle.pgp_message.proofs.body.notification.NotificationResponseBody.read.Goals as goal

pub invariant_of-result : goal.invariant_of-result
invariant_of-result g c =
    notification_fits (g.S.Storage.bytes c.args.payload) c.in_ok-rest.rest.now c.in_ok-channel.channel.now c.in_ok-channel.rest.now c.in_ok-rest-2.field-0-0.now c.in_ok-rest-2.rest.now (g.S.Storage.bytes c.cut.new.self) c.in_ok-rest.field-0-0
    (search rules) (search rules) (search rules) (search rules) (search rules)

pub returns-then-not-is_empty : goal.returns-then-not-is_empty
returns-then-not-is_empty g c =
    notification_long (g.S.Storage.bytes c.args.payload) c.in_ok-rest.rest.now c.in_ok-channel.channel.now c.in_ok-channel.rest.now c.in_ok-rest-2.field-0-0.now c.in_ok-rest-2.rest.now c.in_ok-rest.field-0-0
    (search rules) (search rules) (search rules) (search rules)

pub returns : goal.returns
returns g c =
    notification_is (g.S.Storage.bytes c.args.payload) c.in_ok-rest.rest.now c.in_ok-channel.channel.now c.in_ok-channel.rest.now c.in_ok-rest-2.field-0-0.now c.in_ok-rest-2.rest.now (g.S.Storage.bytes c.cut.new.self) c.in_ok-rest.field-0-0
    (search rules) (search rules) (search rules) (search rules) (search rules)
