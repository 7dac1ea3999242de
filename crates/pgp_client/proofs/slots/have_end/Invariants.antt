use Rattle.pgp_client.proofs.Common.{◌≡◌, drop, map, has_end}
use Rattle.pgp_client.specs.Codes.{asked_in}
use Rattle.pgp_client.proofs.slots.have_end.Given as goal

abbrev pub invariant-loop-slot : goal.invariant-loop-slot
invariant-loop-slot l = has_end (map asked_in l.slots) ≡ has_end (map asked_in (drop l.slot-index l.slots))
