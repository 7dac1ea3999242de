-- Some options came, and the other words stand after them.
use Rattle.pgtrace_lines.proofs.Common.{◌≤◌, ◌-◌, map, drop, length, chosen_of}
use Rattle.pgtrace_lines.proofs.OptionLemmas.{Received}
use Rattle.pgtrace_lines.proofs.options.options_of.Given as goal

abbrev pub invariant-each : goal.invariant-each
invariant-each g l = (l.at ≤ length l.words) × Received l.terminal (map (λ word. word.now) l.has) (map (λ word. word.now) l.words) (map (λ word. word.now) (drop l.at l.words)) (chosen_of l.options)

abbrev pub decreases-each : goal.decreases-each
decreases-each g l = length l.words - l.at
