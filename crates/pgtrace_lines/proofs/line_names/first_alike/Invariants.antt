-- What is found in the rest is what is found in all.
use Rattle.pgtrace_lines.proofs.Common.{◌≡◌, drop, map}
use Rattle.std.specs.List.{find}
use Rattle.std.specs.Str.{str_eq_ignore_ascii_case}
use Rattle.pgtrace_lines.proofs.line_names.first_alike.Given as goal

abbrev pub invariant-loop-name : goal.invariant-loop-name
invariant-loop-name l = find (λ name. str_eq_ignore_ascii_case name l.word) (map (λ name. name.now) (drop l.name-index l.names)) ≡ find (λ name. str_eq_ignore_ascii_case name l.word) (map (λ name. name.now) l.names)
