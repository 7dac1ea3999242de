use Rattle.pgp_client.proofs.Common.{◌∙◌, arith, ap, map, List, awaits_none, Slot}
use Rattle.pgp_client.specs.Codes.{asked_in}
use Rattle.pgp_client.proofs.SlotItems.{slice_held}
use Rattle.pgp_client.proofs.slots.Slots.await_none.Goals as goal

pub returns : goal.returns
returns c = c.are_passed.ensures ∙ ap (λ (xs : List Slot). awaits_none (map asked_in xs)) (slice_held c.args.start c.args.end c.args.room.now (omega (arith, c)) (omega (arith, c)))
