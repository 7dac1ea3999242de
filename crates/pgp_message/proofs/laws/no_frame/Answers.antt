use Rattle.pgp_message.proofs.Runs.{frames_none}
use Rattle.pgp_message.proofs.laws.no_frame.Goals as goal

pub returns : goal.returns
returns c = frames_none
