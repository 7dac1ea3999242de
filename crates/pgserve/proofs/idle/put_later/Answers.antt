use Rattle.std.proofs.Common.{refl, ap, ◌∙◌}
use Rattle.pgserve.specs.Sent.{Nothing}
use Rattle.pgserve.proofs.Informs.{notified, informed}
use Rattle.pgserve.proofs.idle.put_later.Goals.{in-Notify, in-Set, in-Wait}
use Rattle.pgserve.proofs.idle.put_later.Goals as goal

pub loop-later-init : goal.loop-later-init
loop-later-init c = Nothing

pub loop-later-preserved : goal.loop-later-preserved
loop-later-preserved c = elim c.match-later.branch [
  | in-Notify w ↦ informed c.loop-later.invariant (notified _ _ _ _ w.put_notification.ensures) refl (ap (λ o. o.bytes.items) w.out-is)
  | in-Set w ↦ informed c.loop-later.invariant w.report.ensures (ap (λ b. b.items) w.begin.ensures) (ap (λ o. o.bytes.items) w.out-is)
  | in-Wait w ↦ informed c.loop-later.invariant Nothing refl (ap (λ o. o.bytes.items) w.out-is ∙ ap (λ b. b.items) w.add.ensures)
]
