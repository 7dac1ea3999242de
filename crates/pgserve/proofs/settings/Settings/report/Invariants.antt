use Rattle.pgserve.specs.Sent.{Informs}
use Rattle.pgserve.proofs.settings.Settings.report.Given as goal

abbrev pub invariant-loop-setting : goal.invariant-loop-setting
invariant-loop-setting l = Informs l.fn.out.bytes.items l.out.bytes.items
