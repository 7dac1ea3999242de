use Rattle.pgp_session.proofs.MonitorSteps.{sent_belongs}
use Rattle.pgp_session.proofs.laws.what_is_sent_belongs.Goals as goal

pub returns : goal.returns
returns c = sent_belongs
