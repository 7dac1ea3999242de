-- None so far.
use Rattle.std.specs.Prelude.{◌≡◌, false, take}
use Rattle.pgp_value_text.proofs.Common.{list_any, is_special}
use Rattle.pgp_value_text.proofs.quoting.has_special.Given as goal

abbrev pub invariant-loop-byte : goal.invariant-loop-byte
invariant-loop-byte l = list_any (is_special l.fn.in_range) (take l.byte-index l.text) ≡ false
