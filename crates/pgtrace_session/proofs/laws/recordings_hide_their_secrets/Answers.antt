use Rattle.pgtrace_session.proofs.AlikeRecordings.{recordings_hidden}
use Rattle.pgtrace_session.proofs.laws.recordings_hide_their_secrets.Goals as goal

pub returns : goal.returns
returns c = recordings_hidden
