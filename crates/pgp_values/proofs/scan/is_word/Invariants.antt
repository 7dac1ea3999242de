use Rattle.pgp_values.proofs.Common.{◌≡◌, map, take, lower}
use Rattle.pgp_values.proofs.scan.is_word.Given as goal

abbrev pub invariant-loop-i : goal.invariant-loop-i
invariant-loop-i l = map lower (take l.i l.bytes) ≡ take l.i l.word
