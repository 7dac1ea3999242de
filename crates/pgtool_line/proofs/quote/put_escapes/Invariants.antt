-- The bytes so far were added.
use Rattle.pgtool_line.proofs.Common.{◌≡◌, ◌++◌, take, string_bytes, flat_map, Columns, hex_escape}
use Rattle.pgtool_line.proofs.quote.put_escapes.Given as goal

abbrev pub invariant-loop-byte : goal.invariant-loop-byte
invariant-loop-byte g l = string_bytes l.line ≡ string_bytes l.fn.line ++ flat_map (hex_escape Columns) (take l.byte-index l.bytes)
