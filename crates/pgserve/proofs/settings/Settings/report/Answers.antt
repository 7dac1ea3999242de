use Rattle.std.proofs.Common.{refl, ap}
use Rattle.pgserve.specs.Sent.{Nothing}
use Rattle.pgserve.proofs.Informs.{reported, informed}
use Rattle.pgserve.proofs.settings.Settings.report.Goals.{then-is_news, else-is_news}
use Rattle.pgserve.proofs.settings.Settings.report.Goals as goal

pub loop-setting-init : goal.loop-setting-init
loop-setting-init c = Nothing

pub loop-setting-preserved : goal.loop-setting-preserved
loop-setting-preserved c = elim c.if-is_news.branch [
  | then-is_news w ↦ informed c.loop-setting.invariant (reported _ _ _ w.report.ensures) refl (ap (λ o. o.bytes.items) w.out-is)
  | else-is_news w ↦ informed c.loop-setting.invariant Nothing refl (ap (λ o. o.bytes.items) w.out-is)
]
