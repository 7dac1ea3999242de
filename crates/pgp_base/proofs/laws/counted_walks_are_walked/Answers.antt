use Rattle.pgp_base.proofs.CountedWalks.{begins_walk, next_taken, hint_reported}
use Rattle.pgp_base.proofs.laws.counted_walks_are_walked.Goals as goal

pub returns : goal.returns
returns g c = record { begins = begins_walk; next = next_taken; hint = hint_reported }
