use Rattle.pgp_message.proofs.Common.{length}
use Rattle.pgp_message.proofs.Mechanisms.{HasSought}
use Rattle.pgp_message.proofs.walk.mechanisms.SaslMechanisms+ref+str.offer.Given as goal

abbrev pub invariant-names : goal.invariant-names
invariant-names l = HasSought l.fn.sought l.fn.self l.found l.self

abbrev pub decreases-names : goal.decreases-names
decreases-names l = length l.self.items
