use Rattle.pgp_client.proofs.Common.{◌∙◌, arith, ap, map, List, has_end, Slot}
use Rattle.pgp_client.specs.Codes.{asked_in}
use Rattle.pgp_client.proofs.SlotItems.{slice_held}
use Rattle.pgp_client.proofs.slots.SlotsQueue.has_end.Goals as goal

pub returns : goal.returns
returns c = c.have_end.ensures ∙ ap (λ (xs : List Slot). has_end (map asked_in xs)) (slice_held c.args.self.now.start c.args.self.now.end c.args.self.now.room.now (omega (arith, c)) (omega (arith, c)))
