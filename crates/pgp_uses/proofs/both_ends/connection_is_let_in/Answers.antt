use Rattle.pgp_uses.proofs.ConnectedEnds.{connects}
use Rattle.pgp_uses.proofs.both_ends.connection_is_let_in.Goals as goal

pub returns : goal.returns
returns g c = λ name exchange client server started facing enough.
    connects c.one_reply_is_taken.ensures c.no_frame.ensures c.next_frame.ensures c.mechanisms_are_read.ensures c.one_list_of_mechanisms.ensures.texts _ _ _ _ name exchange client server started facing enough
