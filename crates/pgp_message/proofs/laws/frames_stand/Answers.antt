use Rattle.pgp_message.proofs.Runs.{frames_front}
use Rattle.pgp_message.proofs.laws.frames_stand.Goals as goal

pub returns : goal.returns
returns c = frames_front
