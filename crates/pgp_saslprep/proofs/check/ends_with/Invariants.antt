use Rattle.pgp_saslprep.proofs.Common.{◌≡◌, ends}
use Rattle.pgp_saslprep.proofs.check.ends_with.Given as goal

abbrev pub invariant-loop-c : goal.invariant-loop-c
invariant-loop-c l = l.listed ≡ ends l.table l.yielded
