use Rattle.pgp_message.proofs.Runs.{frames_join}
use Rattle.pgp_message.proofs.laws.frames_go_on.Goals as goal

pub returns : goal.returns
returns c = frames_join
