-- The names before this text were added.
use Rattle.pgtrace_lines.proofs.Common.{◌≡◌, ◌++◌, map}
use Rattle.std.specs.List.{filter_map}
use Rattle.pgtrace_lines.specs.LineNames.{name_meant}
use Rattle.pgtrace_lines.proofs.line_names.add_between.Given as goal

abbrev pub invariant-loop-text : goal.invariant-loop-text
invariant-loop-text g l =
    (goal.iterator-loop-text g).can_next l.text-iterator ×
    (goal.iterator-loop-text g).is_finite l.text-iterator ×
    (map (λ name. name.now) l.names.items ≡ map (λ name. name.now) l.fn.names.items ++ filter_map name_meant (map (λ text. text.now) l.yielded))
