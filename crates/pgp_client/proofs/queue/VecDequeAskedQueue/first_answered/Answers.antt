use Rattle.pgp_client.proofs.Common.{◌∙◌, ap, List, Asked, first_in}
use Rattle.pgp_client.specs.Ending.{first_name}
use Rattle.pgp_client.proofs.SlotItems.{first_behind, first_here}
use Rattle.pgp_client.proofs.queue.VecDequeAskedQueue.first_answered.Goals as goal

pub returns-in-Some : goal.returns-in-Some
returns-in-Some g c = first_here c.args.skipping c.as_slices.result.1.now c.in-Some.name c.as_slices.result.0.now c.in-Some.ensures ∙ ap (λ (xs : List Asked). first_name (first_in c.args.skipping xs)) c.as_slices.ensures.items

pub returns-in-None : goal.returns-in-None
returns-in-None g c = c.first_answered-in-None.ensures ∙ first_behind c.args.skipping c.as_slices.result.1.now c.as_slices.result.0.now c.in-None.ensures ∙ ap (λ (xs : List Asked). first_name (first_in c.args.skipping xs)) c.as_slices.ensures.items
