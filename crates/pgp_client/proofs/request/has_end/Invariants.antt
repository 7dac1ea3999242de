use Rattle.pgp_client.proofs.Common.{◌≡◌, drop, has_end}
use Rattle.pgp_client.proofs.request.has_end.Given as goal

abbrev pub invariant-loop-asked : goal.invariant-loop-asked
invariant-loop-asked l = has_end l.requests ≡ has_end (drop l.asked-index l.requests)
