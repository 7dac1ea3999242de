use Rattle.pgp_frontend_read.proofs.Common.{map, length, HasRead, kind_view, view}
use Rattle.pgp_frontend_read.proofs.whole_session.read_on.Given as goal

-- the messages so far are those of steps, and these kinds are left
abbrev pub invariant-messages : goal.invariant-messages
invariant-messages g l = HasRead (map kind_view l.fn.kinds) l.fn.reader (map view l.messages.items) (map kind_view l.rest) l.reader

abbrev pub decreases-messages : goal.decreases-messages
decreases-messages g l = length l.reader.bytes
