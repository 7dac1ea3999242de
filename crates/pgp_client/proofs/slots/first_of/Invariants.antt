use Rattle.pgp_client.proofs.Common.{◌≡◌, drop, map, first_in}
use Rattle.pgp_client.specs.Codes.{asked_in}
use Rattle.pgp_client.specs.Ending.{first_name}
use Rattle.pgp_client.proofs.slots.first_of.Given as goal

abbrev pub invariant-loop-slot : goal.invariant-loop-slot
invariant-loop-slot l = first_name (first_in l.skipping (map asked_in l.slots)) ≡ first_name (first_in l.skipping (map asked_in (drop l.slot-index l.slots)))
