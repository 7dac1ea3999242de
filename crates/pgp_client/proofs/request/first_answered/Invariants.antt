use Rattle.pgp_client.proofs.Common.{◌≡◌, drop, first_in}
use Rattle.pgp_client.specs.Ending.{first_name}
use Rattle.pgp_client.proofs.request.first_answered.Given as goal

abbrev pub invariant-loop-asked : goal.invariant-loop-asked
invariant-loop-asked l = first_name (first_in l.skipping l.requests) ≡ first_name (first_in l.skipping (drop l.asked-index l.requests))
