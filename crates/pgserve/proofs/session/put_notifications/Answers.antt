use Rattle.std.proofs.Common.{refl}
use Rattle.pgserve.specs.Sent.{Nothing}
use Rattle.pgserve.proofs.Informs.{notified, informed}
use Rattle.pgserve.proofs.session.put_notifications.Goals as goal

pub loop-pair-init : goal.loop-pair-init
loop-pair-init c = Nothing

pub loop-pair-preserved : goal.loop-pair-preserved
loop-pair-preserved c = informed c.loop-pair.invariant (notified _ _ _ _ c.put_notification.ensures) refl refl
