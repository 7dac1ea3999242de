-- A connection's log-in: one of `pgp_login` whose exchange is held whole.
use Rattle.std.specs.Prelude.{Bool, ◌||◌}
use Rattle.pgp_auth.specs.ScramClient.{Client}
use Rattle.pgp_auth.specs.declared.scram.error.ScramError.TheVariants.{InvalidNonce}
use Rattle.pgp_login.specs.Exchange.{seen_client}
use Rattle.pgp_login.specs.Login.{Kept, begun_in, kept}
use Rattle.pgp_login.specs.Machine.{Ways}
use Rattle.pgp_login.specs.declared.fault.LoginError.{LoginError}
use Rattle.pgp_login.specs.declared.fault.LoginError.TheVariants as login
use Rattle.pgp_login.specs.declared.login.Login.{Login}
use Rattle.pgp_login.specs.declared.login.LoginPhase.TheVariants.{AwaitsOffer}
use Rattle.pgp_login.specs.declared.login.Ways.{Ways as Given}
use Rattle.pgp_session.specs.declared.connection_error.ConnectionError.{ConnectionError}
use Rattle.pgp_session.specs.declared.connection_error.ConnectionError.TheVariants as code

abbrev pub seen : Login Client → Kept
seen l = kept seen_client l

-- the log-in that begins by these ways
abbrev pub given : Given Client → Kept
given w = seen (record { phase = AwaitsOffer; ways = w })

-- the ways that it admits, before an exchange has begun
abbrev pub ways_in : Kept → Ways
ways_in l = record { scram = begun_in l.scram; md5 = l.md5; cleartext = l.cleartext; none = l.none; least = l.least }

-- the same where the server answered whether it encrypts
abbrev pub encrypted_by : Bool → Kept → Kept
encrypted_by encrypts l = record { phase = l.phase; scram = l.scram; md5 = l.md5; cleartext = l.cleartext; none = l.none; least = l.least; encrypted = l.encrypted || encrypts }

-- why it fails, as a connection says it
abbrev pub error_of : {A : Type 0} → LoginError A → ConnectionError A
error_of login.Undue = code.Undue
error_of login.NotAdmitted = code.NotAdmitted
error_of login.NotOffered = code.NotOffered
error_of login.TooFewRounds = code.TooFewRounds
error_of login.BadNonce = code.Scram InvalidNonce
error_of (login.Scram e) = code.Scram e
error_of (login.Unwritten e) = code.Unwritten e
