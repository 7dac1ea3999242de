-- What is found is the first before this text that is unknown.
use Rattle.pgtrace_lines.proofs.Common.{◌≡◌, map}
use Rattle.std.specs.List.{find}
use Rattle.pgtrace_lines.specs.Common.{option_map}
use Rattle.pgtrace_lines.specs.LineNames.{is_unknown}
use Rattle.pgtrace_lines.proofs.line_names.unknown_between.Given as goal

abbrev pub invariant-loop-text : goal.invariant-loop-text
invariant-loop-text l =
    goal.iterator-loop-text.can_next l.text-iterator ×
    goal.iterator-loop-text.is_finite l.text-iterator ×
    (option_map (λ name. name.now) l.unknown ≡ find is_unknown (map (λ text. text.now) l.yielded))
