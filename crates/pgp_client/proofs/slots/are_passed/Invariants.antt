use Rattle.pgp_client.proofs.Common.{◌≡◌, drop, map, awaits_none}
use Rattle.pgp_client.specs.Codes.{asked_in}
use Rattle.pgp_client.proofs.slots.are_passed.Given as goal

abbrev pub invariant-loop-slot : goal.invariant-loop-slot
invariant-loop-slot l = awaits_none (map asked_in l.slots) ≡ awaits_none (map asked_in (drop l.slot-index l.slots))
