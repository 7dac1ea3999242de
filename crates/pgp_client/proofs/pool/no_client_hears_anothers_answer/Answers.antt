use Rattle.pgp_client.proofs.Lendings.{hears_own, is_read}
use Rattle.pgp_client.proofs.pool.no_client_hears_anothers_answer.Goals as goal

pub returns : goal.returns
returns c = record { own = hears_own; read = is_read c.messages_belong_in_turns.ensures.belong }
