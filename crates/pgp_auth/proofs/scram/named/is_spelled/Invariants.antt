use Rattle.pgp_auth.proofs.Common.{length, ◌↔◌, SaslName}
use Rattle.pgp_auth.proofs.scram.named.is_spelled.Given as goal

abbrev pub invariant-characters : goal.invariant-characters
invariant-characters l = SaslName l.name ↔ SaslName l.rest

abbrev pub decreases-characters : goal.decreases-characters
decreases-characters l = length l.rest
