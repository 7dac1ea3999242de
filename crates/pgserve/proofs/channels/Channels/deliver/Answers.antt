use Rattle.std.proofs.Common.{refl, ap}
use Rattle.pgserve.specs.Sent.{Nothing}
use Rattle.pgserve.proofs.Informs.{notified, informed}
use Rattle.pgserve.proofs.channels.Channels.deliver.Goals.{then-listens, else-listens}
use Rattle.pgserve.proofs.channels.Channels.deliver.Goals as goal

pub loop-pair-init : goal.loop-pair-init
loop-pair-init c = Nothing

pub loop-pair-preserved : goal.loop-pair-preserved
loop-pair-preserved c = elim c.if-listens.branch [
  | then-listens w ↦ informed c.loop-pair.invariant (notified _ _ _ _ w.put_notification.ensures) refl (ap (λ o. o.bytes.items) w.out-is)
  | else-listens w ↦ informed c.loop-pair.invariant Nothing refl (ap (λ o. o.bytes.items) w.out-is)
]
