use Rattle.pgp_frontend.proofs.Readings.{any_frame_read, frame_read}
use Rattle.pgp_frontend.proofs.laws.frames_begin_no_other.Goals as goal

pub returns : goal.returns
returns c = record { frames = any_frame_read; messages = frame_read }
