-- The bytes so far were added.
use Rattle.std.specs.Prelude.{◌≡◌, ◌++◌, take}
use Rattle.pgp_value_text.proofs.Common.{flat_map, escaped_byte}
use Rattle.pgp_value_text.proofs.quoting.push_all.Given as goal

abbrev pub invariant-loop-byte : goal.invariant-loop-byte
invariant-loop-byte g l = l.out.items ≡ l.fn.out.items ++ flat_map (escaped_byte l.fn.in_range) (take l.byte-index l.bytes)
