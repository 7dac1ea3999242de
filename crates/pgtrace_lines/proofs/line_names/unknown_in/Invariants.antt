-- What is found in the rest is what is found in all.
use Rattle.pgtrace_lines.proofs.Common.{◌≡◌, drop, map}
use Rattle.pgtrace_lines.specs.LineNames.{unknown_in}
use Rattle.pgtrace_lines.proofs.line_names.unknown_in.Given as goal

abbrev pub invariant-words : goal.invariant-words
invariant-words l = unknown_in (map (λ word. word.now) (drop l.at l.words)) ≡ unknown_in (map (λ word. word.now) l.words)
