use Rattle.pgp_client.specs.Telling.{start}
use Rattle.pgp_client.proofs.Lendings.{each_alone, lent_run}
use Rattle.pgp_client.proofs.pool.lendings_stand_alone.Goals as goal

pub returns : goal.returns
returns c = record {
  alone = each_alone c.messages_belong_in_turns.ensures.belong c.messages_belong_in_turns.ensures.alone c.answers_follow_their_requests.ensures;
  one_run = λ ls now h. lent_run ls start now h;
}
