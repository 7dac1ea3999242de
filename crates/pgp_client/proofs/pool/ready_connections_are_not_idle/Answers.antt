use Rattle.pgp_client.specs.Pool.{lent_at_ready, run_of}
use Rattle.pgp_client.proofs.TooEarly.{astray, first_ready, followed, premise}
use Rattle.pgp_client.proofs.pool.ready_connections_are_not_idle.Goals as goal

pub returns : goal.returns
returns c = record { between = first_ready; taken = followed; read = λ one other. c.messages_belong_in_turns.ensures.belong (run_of (lent_at_ready one other)) (followed one other); astray = λ one other truth. astray one other c.messages_belong_in_turns.ensures.alone truth; premise = premise c.messages_belong_in_turns.ensures.belong c.messages_belong_in_turns.ensures.alone }
