use Rattle.pgp_session.proofs.Sessions.{answered, asks_encryption, begins, ends, fed_some, observed_one, sends, sent_some, starts, stopped}
use Rattle.pgp_session.proofs.laws.calls_are_known.Goals as goal

pub returns : goal.returns
returns c = record {
  begun = λ login limit at. begins login limit at c.no_frame.ensures;
  asks_encryption = asks_encryption;
  answered = answered;
  starts = starts;
  sends = sends;
  sent = sent_some;
  fed = λ ways h old piece. fed_some ways h old piece c.no_frame.ensures c.frames_go_on.ensures;
  observed = λ ways h old new rest m e phase frame took. observed_one ways h old new rest m e phase frame took c.next_frame.ensures;
  ends = ends;
  stopped = stopped;
}
