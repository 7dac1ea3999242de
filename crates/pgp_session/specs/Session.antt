-- What is known of a connection after any calls.
-- PostgreSQL manual, "Message Flow"; "SASL Authentication"; RFC 5802, RFC 7677.
use Rattle.std.specs.Prelude.{◌≡◌, ◌+◌, ◌<◌, ◌≤◌, ◌^◌, ℕ, Bool, true, false, List, [], ◌∷◌, ◌++◌, length, take, map, option_to_list, Option, Some, None, Result, Ok}
use Rattle.std.specs.List.{flat_map, filter, AllByRecursion}
use Rattle.pgp_base.specs.declared.error.Error.{Error}
use Rattle.pgp_client.specs.Flow.{Belong}
use Rattle.pgp_client.specs.InTurns.{BelongInTurns}
use Rattle.pgp_client.specs.Kinds.{kind_of, request_of}
use Rattle.pgp_client.specs.Telling.{Turn, Asks, Hears as HearsTurn, asked_in, names as names_of, observed_in, reported_in}
use Rattle.pgp_client.specs.declared.event.Event.{Event}
use Rattle.pgp_client.specs.declared.request.Asked.{Asked}
use Rattle.pgp_client.specs.declared.request.Request.{Request}
use Rattle.pgp_frontend.specs.ClientMessage.{ClientMessage, PasswordMessage, SaslInitialResponse, SaslResponse}
use Rattle.pgp_frontend.specs.ClientRun.{ClientRun, is_opened, kinds_of}
use Rattle.pgp_login.specs.Login.{Stands}
use Rattle.pgp_login.specs.Machine.{State, Ways}
use Rattle.pgp_login.specs.Session.{Admitted, IsAllowed}
use Rattle.pgp_login.specs.Talks.{Talks}
use Rattle.pgp_login.specs.declared.login.LoginPhase.TheVariants.{Done}
use Rattle.pgp_message.specs.BackendMessage.{Message}
use Rattle.pgp_message.specs.Stream.{Frames}
use Rattle.pgp_login.specs.Versions.{is_admitted, spoken}
use Rattle.pgp_login.specs.declared.versions.Versions.{Versions}
use Rattle.pgp_frontend.specs.declared.startup.ProtocolVersion.{ProtocolVersion}
use Rattle.pgp_session.specs.Connection.{Shown, version_of}
use Rattle.pgp_session.specs.ServerState.{state_after, unsaid}
use Rattle.pgp_session.specs.Settings.{last_reported, nothing_said, said_after, value_of}
use Rattle.pgp_session.specs.declared.connection.ConnectionPhase.{ConnectionPhase}
use Rattle.pgp_session.specs.declared.connection.ConnectionPhase.TheVariants.{Opening, Encrypting, Started, Over}

-- ---- a session, a message at a time

-- a message of a log-in
abbrev pub is_secret : ClientMessage → Bool
is_secret (PasswordMessage password) = true
is_secret (SaslInitialResponse mechanism response) = true
is_secret (SaslResponse response) = true
is_secret m = false

-- the turn of a message that a server answers
abbrev pub turns_of : Option Request → ℕ → List Turn
turns_of None n = []
turns_of (Some r) n = Asks (record { request = r; name = n }) ∷ []

-- ---- what is known of a connection

-- the bytes that were sent, the messages that were written, the bytes that came, the messages that were taken of them, and the turns
pub record History : Type 0 where
  pub sent : List ℕ
  pub written : List ClientMessage
  pub received : List ℕ
  pub observed : List Message
  pub turns : List Turn

abbrev pub nothing : History
nothing = record { sent = []; written = []; received = []; observed = []; turns = [] }

-- The server answered nothing about versions before a startup packet was written; from then on the version that is spoken was asked for.
abbrev pub SpeaksAt : ConnectionPhase → Versions → Option ProtocolVersion → Type 0
SpeaksAt Opening asked before = before ≡ None
SpeaksAt Encrypting asked before = before ≡ None
SpeaksAt phase asked before = is_admitted asked (spoken asked before) ≡ true

-- whether a startup packet was written
abbrev pub IsOpenedAt : ConnectionPhase → Bool → Type 0
IsOpenedAt Opening opened = opened ≡ false
IsOpenedAt Encrypting opened = opened ≡ false
IsOpenedAt Started opened = opened ≡ true
IsOpenedAt Over opened = Unit {0}

abbrev pub good : List Message → List (Result Message Error)
good ms = map (λ (m : Message). Ok m) ms

-- these numbers rise from this one on, each above the one before, and stay below that one
abbrev pub Rises : ℕ → List ℕ → ℕ → Type 0
Rises low [] high = low ≤ high
Rises low (n ∷ ns) high = (low ≤ n) × Rises (n + 1) ns high

-- The names that were given so far rise, and the next one is above them.
abbrev pub AreNamed : List Turn → ℕ → List ClientMessage → Type 0
AreNamed turns next written = length written < 2 ^ 64 → Rises 0 (names_of (asked_in turns)) next × (next ≤ length written)

-- the messages of a log-in among these
abbrev pub secrets_of : List ClientMessage → List ClientMessage
secrets_of ms = filter is_secret ms

-- what the messages ask
abbrev pub requests_of : List ClientMessage → List Request
requests_of ms = flat_map (λ m. option_to_list (request_of m)) ms

abbrev pub requests_in : List Asked → List Request
requests_in rs = map (λ (a : Asked). a.request) rs

-- What was written is what was sent and what is to be sent; what was heard are the first messages of what came, and the rest is kept. By these turns the dialogue and the log-in came to
-- where they are, and what was asked is what was written.
pub record Known (ways : Ways) (h : History) (now : Shown) : Type 0 where
  pub run : ClientRun (flat_map kinds_of h.written) h.written (h.sent ++ now.out)
  pub opened : IsOpenedAt now.phase (is_opened h.written)
  pub read : Frames h.received (good h.observed) now.incoming
  pub state : State
  pub talks : Talks ways (secrets_of h.written) h.observed h.turns now.talk state
  pub stands : Stands ways now.login.encrypted state now.login
  pub asked : requests_in (asked_in h.turns) ≡ requests_of h.written
  pub server : now.server ≡ said_after nothing_said h.observed
  pub named : AreNamed h.turns now.names h.written
  pub speaks : SpeaksAt now.phase now.offered.versions now.server.state.version

abbrev pub and_sent : ℕ → Shown → History → History
and_sent n old h = record { sent = h.sent ++ take n old.out; written = h.written; received = h.received; observed = h.observed; turns = h.turns }

abbrev pub and_fed : List ℕ → History → History
and_fed piece h = record { sent = h.sent; written = h.written; received = h.received ++ piece; observed = h.observed; turns = h.turns }

abbrev pub and_wrote : ClientMessage → ℕ → History → History
and_wrote m name h = record { sent = h.sent; written = h.written ++ m ∷ []; received = h.received; observed = h.observed; turns = h.turns ++ turns_of (request_of m) name }

abbrev pub and_observed : Message → Event → Option ClientMessage → History → History
and_observed m e reply h = record { sent = h.sent; written = h.written ++ option_to_list reply; received = h.received; observed = h.observed ++ m ∷ []; turns = h.turns ++ HearsTurn (kind_of m) e ∷ [] }

-- ---- what follows

-- What is known says of a session: the requests that were asked are those of the messages written, no two under one name while fewer than 2^64 messages were
-- written; each message belongs to the request that was reported, and to
-- no other, since a server passes over no Sync that is asked after it told that a copy failed; no password is given away but by an admitted way; a client is
-- logged in by one such way alone; the version that is spoken was asked for; and the status, the key and each setting are the server's last.
pub record Follows (ways : Ways) (h : History) (now : Shown) : Type 0 where
  pub asked : requests_in (asked_in h.turns) ≡ requests_of h.written
  pub named : length h.written < 2 ^ 64 → Rises 0 (names_of (asked_in h.turns)) (2 ^ 64)
  pub observed : observed_in h.turns ≡ map kind_of h.observed
  pub belong : Belong (asked_in h.turns) (observed_in h.turns) (reported_in h.turns)
  pub in_turns : BelongInTurns h.turns (reported_in h.turns)
  pub alone : (truth : List Event) → BelongInTurns h.turns truth → truth ≡ reported_in h.turns
  pub allowed : AllByRecursion (IsAllowed ways) (secrets_of h.written)
  pub admitted : now.login.phase ≡ Done → Admitted ways h.observed (secrets_of h.written)
  pub server : now.server.state ≡ state_after unsaid h.observed
  pub version : is_admitted now.offered.versions (version_of now) ≡ true
  pub settings : (name : List ℕ) → value_of name now.server.settings ≡ last_reported name h.observed
