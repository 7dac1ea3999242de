use Rattle.pgp_login.specs.Session.{Begins}
use Rattle.pgp_login.specs.Machine.{AwaitsOffer}
use Rattle.pgp_login.proofs.Admissions.{done, heard}
use Rattle.pgp_login.proofs.laws.calls_are_known.Goals as goal

pub returns-clause-begun : goal.returns-clause-begun
returns-clause-begun c = λ w encrypted l stands. record { state = AwaitsOffer; plays = Begins; stands = stands }

pub returns-clause-heard : goal.returns-clause-heard
returns-clause-heard c = λ w encrypted gave observed m old new out grown sim k. heard w gave observed encrypted m old new out grown sim k

pub returns-clause-done : goal.returns-clause-done
returns-clause-done c = λ w encrypted gave observed l k is. done w gave observed encrypted l k is
