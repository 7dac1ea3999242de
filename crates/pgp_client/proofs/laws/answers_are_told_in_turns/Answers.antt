use Rattle.pgp_client.proofs.Told.{doubted_so, told_in_turns}
use Rattle.pgp_client.proofs.laws.answers_are_told_in_turns.Goals as goal

pub returns : goal.returns
returns c = record { told = told_in_turns; uncertain = doubted_so }
