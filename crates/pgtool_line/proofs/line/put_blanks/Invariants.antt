-- So many were added.
use Rattle.pgtool_line.proofs.Common.{◌≡◌, ◌++◌, string_bytes, blanks}
use Rattle.pgtool_line.proofs.line.put_blanks.Given as goal

abbrev pub invariant-loop : goal.invariant-loop
invariant-loop g l = string_bytes l.line ≡ string_bytes l.fn.line ++ blanks l.counter
