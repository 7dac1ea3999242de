use Rattle.pgp_client.proofs.Common.{◌∙◌, arith, ap, map, List, first_in, Slot}
use Rattle.pgp_client.specs.Codes.{asked_in}
use Rattle.pgp_client.specs.Ending.{first_name}
use Rattle.pgp_client.proofs.SlotItems.{slice_held}
use Rattle.pgp_client.proofs.slots.Slots.first_answered_in.Goals as goal

pub returns : goal.returns
returns c = c.first_of.ensures ∙ ap (λ (xs : List Slot). first_name (first_in c.args.skipping (map asked_in xs))) (slice_held c.args.start c.args.end c.args.room.now (omega (arith, c)) (omega (arith, c)))
