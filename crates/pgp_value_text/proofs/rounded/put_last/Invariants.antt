-- The digits so far, and those that are left.
use Rattle.std.specs.Prelude.{◌≡◌, ◌+◌, ◌-◌, ◌++◌}
use Rattle.arrayvec.specs.ArrayString.{array_string_len}
use Rattle.pgp_value_text.proofs.Common.{last_digits}
use Rattle.pgp_value_text.proofs.rounded.put_last.Given as goal

abbrev pub invariant-digits : goal.invariant-digits
invariant-digits g l = (l.out.bytes ++ last_digits (l.fn.places - l.back) l.fn.number ≡ l.fn.out.bytes ++ last_digits l.fn.places l.fn.number) × (array_string_len l.out ≡ array_string_len l.fn.out + l.back)
