use Rattle.pgp_client.specs.Kinds.{kind_of}
use Rattle.pgp_session.proofs.Loans.{calls_follow, pool_calls, pool_lends, saw_all}
use Rattle.pgp_client.specs.Pool.{run_of}
use Rattle.pgp_session.specs.Loans.{calls_in, received_in, sent_in, lending_of, lendings_of, turns_of_calls}
use Rattle.std.specs.Prelude.{◌∷◌, ◌++◌, []}
use Rattle.pgp_session.proofs.pooler.no_client_of_a_pooler_hears_anothers_answer.Goals as goal

pub returns : goal.returns
returns c = record {
  lent = λ login loans first now calls h quiet. c.idle_sessions_can_be_lent.ensures (sent_in (login ++ calls_in loans)) (received_in (login ++ calls_in loans)) now [] []
      (saw_all (login ++ calls_in loans) now (pool_calls login loans first now calls h)) quiet;
  own = λ pool login loans first now client last truth calls h quiet b.
      c.no_client_hears_anothers_answer.ensures.own (lending_of pool login ∷ lendings_of loans) now.talk (lending_of client last) truth (pool_lends pool login loans first now calls h) quiet.answered b;
  alone = λ pool login loans first now calls h. c.lendings_stand_alone.ensures.alone (lending_of pool login ∷ lendings_of loans) now.talk (pool_lends pool login loans first now calls h);
  answered = λ pool login loans first now kind told truth calls h quiet b.
      c.nothing_is_owed.ensures (run_of (lending_of pool login ∷ lendings_of loans)) now.talk kind told truth
      (c.lendings_stand_alone.ensures.one_run (lending_of pool login ∷ lendings_of loans) now.talk (pool_lends pool login loans first now calls h)) quiet.answered b;
  closed = λ old new now m r calls is h quiet. c.closed_connections_are_not_lent.ensures.never new.talk now.talk (turns_of_calls calls) is.1 (calls_follow calls new now h) quiet.answered;
  ended = λ old new now m calls is h quiet.
      c.closed_connections_are_not_lent.ensures.never new.talk now.talk (turns_of_calls calls) (c.closed_connections_are_not_lent.ensures.ended old.talk new.talk (kind_of m) is.0) (calls_follow calls new now h) quiet.answered;
}
