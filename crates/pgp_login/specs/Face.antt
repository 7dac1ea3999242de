-- C's words for a log-in: what a caller keeps between the calls, and the ways that it admits.
use Rattle.std.specs.Prelude.{ℕ, Bool, not, bit_and, if◌then◌else◌, ◌==◌, List, [], Option, Some, None, option_map}
use Rattle.pgp_auth.specs.ScramClient.{Begun}
use Rattle.pgp_auth.specs.ScramText.{Binding}
use Rattle.pgp_frontend.specs.declared.startup.ProtocolVersion.{ProtocolVersion}
use Rattle.pgp_frontend.specs.declared.startup.ProtocolVersion.TheVariants.{V3_0, V3_2}
use Rattle.pgp_login.specs.Exchange.{begun_with, binding_at}
use Rattle.pgp_login.specs.Machine.{State, AwaitsOffer, AwaitsFirst, AwaitsFinal, AwaitsOk, Done, Failed, Ways}
use Rattle.pgp_login.specs.Timely.{Offered}
use Rattle.pgp_login.specs.declared.face.PgpLogin.{PgpLogin}
use Rattle.pgp_login.specs.declared.face.PgpWays.{PgpWays}
use Rattle.pgp_login.specs.declared.login.LoginPhase.{LoginPhase}
use Rattle.pgp_login.specs.declared.login.LoginPhase.TheVariants as phases
use Rattle.pgp_login.specs.declared.versions.Versions.{Versions}
use Rattle.pgp_login.specs.declared.versions.Versions.TheVariants.{Only3_0, UpTo3_2, Only3_2}

-- The ways, each a bit: 1 no password, 2 one in clear text, 4 its MD5, 8 SCRAM-SHA-256.
abbrev pub admits : ℕ → ℕ → Bool
admits ways way = not (bit_and ways way == 0)

abbrev pub exchange_in : PgpWays → Option Begun
exchange_in w = option_map (λ (b : Binding). begun_with w.password.now w.nonce.now b) (binding_at w.kind w.certificate.now)

abbrev pub scram_in : PgpWays → Option Begun
scram_in w = if admits w.ways 8 then exchange_in w else None

abbrev pub md5_in : PgpWays → Option (List ℕ × List ℕ)
md5_in w = if admits w.ways 4 then Some (w.user.now, w.password.now) else None

abbrev pub cleartext_in : PgpWays → Option (List ℕ)
cleartext_in w = if admits w.ways 2 then Some w.password.now else None

abbrev pub ways_of : PgpWays → Ways
ways_of w = record { scram = scram_in w; md5 = md5_in w; cleartext = cleartext_in w; none = admits w.ways 1; least = w.least_rounds }

-- How far a log-in is, by its number.
abbrev pub state_at : ℕ → List ℕ → State
state_at n signature = if n == 0 then AwaitsOffer else if n == 1 then AwaitsFirst else if n == 2 then AwaitsFinal signature else if n == 3 then AwaitsOk else if n == 4 then Done else Failed

-- the number of a phase: the one that C keeps
abbrev pub phase_code : LoginPhase → ℕ
phase_code phases.AwaitsOffer = 0
phase_code phases.AwaitsFirst = 1
phase_code phases.AwaitsFinal = 2
phase_code phases.AwaitsOk = 3
phase_code phases.Done = 4
phase_code phases.Failed = 5

abbrev pub state_of : PgpLogin → State
state_of l = state_at l.phase l.signature

-- The versions that are asked for, by their number, and no protocol option.
abbrev pub versions_at : ℕ → Versions
versions_at n = if n == 0 then Only3_0 else if n == 1 then UpTo3_2 else Only3_2

abbrev pub offered_in : PgpWays → Offered
offered_in w = record { versions = versions_at w.versions; options = [] }

-- what the server answered about versions, by its number
abbrev pub answered_at : ℕ → Option ProtocolVersion
answered_at n = if n == 0 then None else if n == 1 then Some V3_0 else Some V3_2

-- the number under which C keeps it
abbrev pub answer_code : Option ProtocolVersion → ℕ
answer_code None = 0
answer_code (Some V3_0) = 1
answer_code (Some V3_2) = 2
