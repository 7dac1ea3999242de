-- The bits so far were added.
use Rattle.std.specs.Prelude.{◌≡◌, ◌++◌, take}
use Rattle.pgp_value_text.proofs.Common.{flat_map, byte_bits}
use Rattle.pgp_value_text.proofs.bits.push_bytes.Given as goal

abbrev pub invariant-loop-byte : goal.invariant-loop-byte
invariant-loop-byte g l = l.shown.items ≡ l.fn.shown.items ++ flat_map byte_bits (take l.byte-index l.bytes)
