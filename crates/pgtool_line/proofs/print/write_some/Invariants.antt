-- Each try before this one was interrupted.
use Rattle.pgtool_line.proofs.Common.{◌≡◌, ◌⊎◌, Keeps}
use Rattle.pgtool_line.proofs.print.write_some.Given as goal

abbrev pub invariant-tries : goal.invariant-tries
invariant-tries g l = Keeps (g.W.Write.contents l.initial.output) (g.W.Write.contents l.output) × ((l.counter ≡ 0) ⊎ g.W.Output.Interrupted l.output l.counter)
