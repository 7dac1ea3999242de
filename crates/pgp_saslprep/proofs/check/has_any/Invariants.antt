use Rattle.pgp_saslprep.proofs.Common.{◌≡◌, chars, has}
use Rattle.std.proofs.Common.{IsUtf8}
use Rattle.std.specs.Str.Iter.{chars_rest}
use Rattle.pgp_saslprep.proofs.check.has_any.Given as goal

abbrev pub invariant-loop-c : goal.invariant-loop-c
invariant-loop-c l = IsUtf8 (chars_rest l.c-iterator) × (has l.table (chars (chars_rest l.c-iterator)) ≡ has l.table (chars l.text))
