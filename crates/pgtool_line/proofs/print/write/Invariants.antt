-- What is gone from the rest was taken.
use Rattle.pgtool_line.proofs.Common.{◌≡◌, ℕ, List, ◌++◌, length, Appends}
use Rattle.pgtool_line.proofs.print.write.Given as goal

abbrev pub invariant-rest : goal.invariant-rest
invariant-rest g l = (done : List ℕ) × (l.initial.rest ≡ done ++ l.rest) × Appends (g.W.Write.contents l.initial.output) (g.W.Write.contents l.output) done

abbrev pub decreases-rest : goal.decreases-rest
decreases-rest g l = length l.rest
