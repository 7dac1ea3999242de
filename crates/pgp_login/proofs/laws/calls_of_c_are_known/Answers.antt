use Rattle.pgp_login.proofs.Common.{[], ap, subst, sym}
use Rattle.pgp_login.specs.Session.{Begins, Plays}
use Rattle.pgp_login.specs.Machine.{State}
use Rattle.pgp_login.specs.Face.{state_at, state_of, ways_of}
use Rattle.pgp_login.proofs.Admissions.{played, plays_admitted}
use Rattle.pgp_login.proofs.laws.calls_of_c_are_known.Goals as goal

pub returns-clause-begun : goal.returns-clause-begun
returns-clause-begun c = λ w l is. subst (λ (s : State). Plays (ways_of w) [] [] s) (sym (ap (λ n. state_at n l.signature) is)) Begins

pub returns-clause-heard : goal.returns-clause-heard
returns-clause-heard c = λ w gave observed m old new out grown logged p. played (ways_of w) gave observed w.is_encrypted m (state_of old) (state_of new) out grown logged p

pub returns-clause-done : goal.returns-clause-done
returns-clause-done c = λ w gave observed l p is. plays_admitted (ways_of w) (subst (λ (s : State). Plays (ways_of w) gave observed s) (ap (λ n. state_at n l.signature) is) p)
