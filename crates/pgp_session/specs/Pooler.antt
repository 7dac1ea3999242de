-- When a server's session is idle, by what both sides sent.
-- PostgreSQL manual, "Message Flow".
use Rattle.std.specs.Prelude.{◌≡◌, ◌⊎◌, ℕ, Bool, true, false, List, [], ◌∷◌, ◌++◌, Option, Some, None, Result, Ok, Err, if◌then◌else◌, ◌||◌}
use Rattle.pgp_base.specs.declared.error.Error.{Error}
use Rattle.pgp_base.specs.declared.error.Error.TheVariants.{OutOfMemory}
use Rattle.pgp_client.specs.Kinds.{kind_of, request_of}
use Rattle.pgp_client.specs.Taking.{is_idle, taken}
use Rattle.pgp_client.specs.Talk.{Talk, shown as talk_of}
use Rattle.pgp_client.specs.Telling.{start}
use Rattle.pgp_client.specs.declared.event.Event.{Event}
use Rattle.pgp_client.specs.declared.event.Event.TheVariants.{Aside, Ended}
use Rattle.pgp_client.specs.declared.event.Refusal.{Refusal}
use Rattle.pgp_client.specs.declared.kind.Kind.TheVariants.{FunctionCallResponse}
use Rattle.pgp_client.specs.declared.stage.Stage.TheVariants.{Over}
use Rattle.pgp_frontend.specs.ClientMessage.{ClientMessage, Bind, Close, Describe, Execute, FunctionCall, Parse, Query, Sync, Startup, Terminate}
use Rattle.pgp_message.specs.BackendMessage.{Message}
use Rattle.pgp_session.specs.Connection.{asked_of}
use Rattle.pgp_session.specs.ServerState.{newer, status}
use Rattle.pgp_session.specs.declared.pooler.Session.{Session}

-- It is answered by a ReadyForQuery in the end, and ends a series of extended queries.
abbrev pub awaits : ClientMessage → Bool
awaits (Startup minor parameters) = true
awaits (Query text) = true
awaits Sync = true
awaits (FunctionCall function formats arguments result_format) = true
awaits x = false

-- A part of an extended query. What awaits a ReadyForQuery ends it.
abbrev pub extends : ClientMessage → Bool
extends (Parse name query types) = true
extends (Bind portal statement formats values result_formats) = true
extends (Describe variant name) = true
extends (Execute portal max_rows) = true
extends (Close variant name) = true
extends x = false

-- It ends the session: what comes of the server then is nobody's to lend.
abbrev pub leaves : ClientMessage → Bool
leaves Terminate = true
leaves x = false

abbrev pub left_after : Bool → List ClientMessage → Bool
left_after before [] = before
left_after before (x ∷ sent) = left_after (before || leaves x) sent

-- whether a part of an extended query waits for its end, after a message
abbrev pub waits : Bool → ClientMessage → Bool
waits before x = if awaits x then false else (if extends x then true else before)

-- the same after all that the client sent
abbrev pub waits_after : Bool → List ClientMessage → Bool
waits_after before [] = before
waits_after before (x ∷ sent) = waits_after (waits before x) sent

-- the status that the last ReadyForQuery reported; none where none came
abbrev pub last_status : Option ℕ → List Message → Option ℕ
last_status before [] = before
last_status before (m ∷ received) = last_status (newer before (status m)) received

-- What a session shows: which answers are awaited, the last status, and whether a part of an extended query waits for its end.
pub record Shown : Type 0 where
  pub talk : Talk
  pub status : Option ℕ
  pub unfinished : Bool
  -- the client ended it
  pub left : Bool

abbrev pub begun : Shown
begun = record { talk = start; status = None; unfinished = false; left = false }

-- after a message of the client
abbrev pub and_sent : ClientMessage → Shown → Shown
and_sent m s = record { talk = asked_of (request_of m) 0 s.talk; status = s.status; unfinished = waits s.unfinished m; left = s.left || leaves m }

-- after a message of the server
abbrev pub and_received : Message → Talk → Shown → Shown
and_received m t s = record { talk = t; status = newer s.status (status m); unfinished = s.unfinished; left = s.left }

-- after a message of the server that says nothing of its transaction
abbrev pub and_talked : Talk → Shown → Shown
and_talked t s = record { talk = t; status = s.status; unfinished = s.unfinished; left = s.left }

abbrev pub Sends : Type 0 → ClientMessage → Shown → Shown → Result (Unit {0}) Error → Type 0
Sends lacks m old new (Ok done) = new ≡ and_sent m old
Sends lacks m old new (Err OutOfMemory) = lacks × (new ≡ old)
Sends lacks m old new (Err e) = ⊥

-- A message of the server is an answer that is awaited, an aside or the session's end.
abbrev pub Receives : Message → Shown → Shown → Result Event Refusal → Type 0
Receives m old new (Ok e) = (taken old.talk (kind_of m) ≡ Ok (e, new.talk)) × (new ≡ and_received m new.talk old)
Receives m old new (Err r) = (taken old.talk (kind_of m) ≡ Err r) × (new.talk.stage ≡ Over)

-- A FunctionCallResponse is the answer that is awaited.
abbrev pub ReceivesResult : Shown → Shown → Result Event Refusal → Type 0
ReceivesResult old new (Ok e) = (taken old.talk FunctionCallResponse ≡ Ok (e, new.talk)) × (new ≡ and_talked new.talk old)
ReceivesResult old new (Err r) = (taken old.talk FunctionCallResponse ≡ Err r) × (new.talk.stage ≡ Over)

-- No answer is awaited, the server is in no transaction, the client is there, and nothing waits on either side, be it a part of an extended query or a byte of a partial message.
pub record IsQuiet (s : Shown) (client server : List ℕ) : Type 0 where
  pub answered : is_idle s.talk ≡ true
  pub idle : s.status ≡ Some 73
  pub finished : s.unfinished ≡ false
  pub stays : s.left ≡ false
  pub client_done : client ≡ []
  pub server_done : server ≡ []

-- A session after these messages of both sides, as they came.
pub data Saw : List ClientMessage → List Message → Shown → Type 0 where
  Nothing : Saw [] [] begun
  AndSent : {sent : List ClientMessage} {received : List Message} {s : Shown} (m : ClientMessage) → Saw sent received s → Saw (sent ++ m ∷ []) received (and_sent m s)
  AndReceived : {sent : List ClientMessage} {received : List Message} {s : Shown} (m : Message) (e : Event) (t : Talk) → taken s.talk (kind_of m) ≡ Ok (e, t) → Saw sent received s
      → Saw sent (received ++ m ∷ []) (and_received m t s)
  AndResult : {sent : List ClientMessage} {received : List Message} {s : Shown} (e : Event) (t : Talk) → taken s.talk FunctionCallResponse ≡ Ok (e, t) → Saw sent received s
      → Saw sent received (and_talked t s)

-- What holds of a quiet session after these messages: none of the client's ends it, no part of an extended query waits for its end, the last status is that of no transaction, and what
-- the server sends next answers nothing.
pub record CanBeLent (sent : List ClientMessage) (received : List Message) (s : Shown) : Type 0 where
  pub finished : waits_after false sent ≡ false
  pub stays : left_after false sent ≡ false
  pub idle : last_status None received ≡ Some 73
  pub unasked : (m : Message) (e : Event) (t : Talk) → taken s.talk (kind_of m) ≡ Ok (e, t) → (e ≡ Aside) ⊎ (e ≡ Ended)

abbrev pub shown : {A : Type 0} → Session A → Shown
shown s = record { talk = talk_of (λ q. q.items) s.dialogue; status = s.status; unfinished = s.unfinished; left = s.left }
