-- A client's connection: what each call makes of it.
-- PostgreSQL manual, "Message Flow"; "SSL Session Encryption".
use Rattle.std.specs.Prelude.{◌≡◌, ◌≢◌, ◌⊎◌, ℕ, ◌+◌, nat_eq, Bool, true, false, not, List, [], ◌∷◌, ◌++◌, drop, map, take, Option, Some, None, Result, Ok, Err, if◌then◌else◌, codes, ◌==◌, ◌&&◌}
use Rattle.std.specs.List.{filter, starts_with}
use Rattle.pgp_base.specs.declared.error.Error.{Error}
use Rattle.pgp_base.specs.declared.error.Error.TheVariants.{OutOfMemory as NoMemory}
use Rattle.pgp_client.specs.Ending.{first_open}
use Rattle.pgp_client.specs.Kinds.{kind_of, request_of}
use Rattle.pgp_client.specs.Limits.{is_longer, lacks_status}
use Rattle.pgp_client.specs.Taking.{asked, awaits_data, is_copying, is_end, taken}
use Rattle.pgp_client.specs.Talk.{Talk, shown as talk_of}
use Rattle.pgp_client.specs.Telling.{start}
use Rattle.pgp_client.specs.declared.event.Event.{Event}
use Rattle.pgp_client.specs.declared.event.Event.TheVariants.{Part}
use Rattle.pgp_client.specs.declared.request.Request.{Request}
use Rattle.pgp_client.specs.declared.stage.Stage.TheVariants.{Over as NothingMore}
use Rattle.pgp_frontend.specs.ClientMessage.{ClientMessage, Bind, CancelRequest, Close, CopyData, CopyDone, CopyFail, Describe, Execute, Flush, Parse, Query, Startup, Sync}
use Rattle.pgp_frontend.specs.Payload.{bytes_of, minor_of}
use Rattle.pgp_frontend.specs.declared.startup.ProtocolVersion.{ProtocolVersion}
use Rattle.pgp_login.specs.Exchange.{Added, Unsent}
use Rattle.pgp_login.specs.Fault.{fault}
use Rattle.pgp_login.specs.Login.{DeclinesSo, Kept as Login, Simulates}
use Rattle.pgp_login.specs.Machine.{asking}
use Rattle.pgp_login.specs.Timely.{IsTimely, Offered}
use Rattle.pgp_login.specs.Timely as timely
use Rattle.pgp_login.specs.Versions.{newest, spoken}
use Rattle.pgp_login.specs.declared.fault.LoginError.{LoginError}
use Rattle.pgp_login.specs.declared.login.LoginPhase.{LoginPhase}
use Rattle.pgp_login.specs.declared.login.LoginPhase.TheVariants.{Done}
use Rattle.pgp_login.specs.declared.versions.Versions.{Versions}
use Rattle.pgp_login.specs.declared.versions.Versions.TheVariants.{Only3_0}
use Rattle.pgp_message.specs.BackendMessage.{Message, CopyData as DataCame, DataRow}
use Rattle.pgp_client.specs.declared.event.Refusal.{Refusal}
use Rattle.pgp_message.specs.Parts.{KeyData}
use Rattle.pgp_message.specs.Stream.{BeginsWithKept, IsPartial, Step, TakesFrame}
use Rattle.pgp_message.specs.Views.{view}
use Rattle.pgp_message.specs.declared.message as code
use Rattle.pgp_session.specs.Login.{encrypted_by, error_of, seen}
use Rattle.pgp_session.specs.Settings.{HasRoom, IsUnkept, Said, heard, most, nothing_said, setting_in}
use Rattle.pgp_session.specs.declared.connection.Connection.{Connection as Kept}
use Rattle.pgp_session.specs.Incoming.{Reads}
use Rattle.pgp_session.specs.declared.connection_state.ConnectionState.{ConnectionState}
use Rattle.pgp_session.specs.declared.connection.ConnectionPhase.{ConnectionPhase}
use Rattle.pgp_session.specs.declared.connection.ConnectionPhase.TheVariants.{Opening, Encrypting, Started, Over}
use Rattle.pgp_session.specs.declared.connection_error.ConnectionError.{ConnectionError}
use Rattle.pgp_session.specs.declared.connection_error.ConnectionError.TheVariants.{BadAnswer, BadStatus, Malformed, Misplaced, OutOfMemory, OutOfPhase, TooLong, Undue, Unkept, Unwritten}
use Rattle.pgp_session.specs.declared.protocol_options.Offered.{Offered as KeptOffered}

pub record Shown : Type 0 where
  pub phase : ConnectionPhase
  pub login : Login
  -- what is to be sent
  pub out : List ℕ
  -- what came, and wasn't taken as messages
  pub incoming : List ℕ
  pub talk : Talk
  -- what the server said last of its session
  pub server : Said
  -- what the startup packet asks for
  pub offered : Offered
  -- the next request's name
  pub names : ℕ
  -- how long a message may be
  pub limit : ℕ

-- a connection of which nothing was sent, with this log-in
abbrev pub begun : Login → ℕ → Shown
begun login limit = record { phase = Opening; login = login; out = []; incoming = []; talk = start; server = nothing_said; offered = record { versions = Only3_0; options = [] }; names = 0; limit = limit }

-- the log-in is done
abbrev pub done_at : LoginPhase → Bool
done_at Done = true
done_at p = false

abbrev pub logged_in_at : ConnectionPhase → LoginPhase → Bool
logged_in_at Started p = done_at p
logged_in_at phase p = false

abbrev pub is_logged_in : Shown → Bool
is_logged_in c = logged_in_at c.phase c.login.phase

-- ---- sending

-- A request where no data of a copy are awaited, and data and their end in a copy to the server. A server that awaits data takes Sync and Flush among them,
-- and passes over both; any other message ends the copy with an error, and the session on older servers.
abbrev pub may_send : Bool → Bool → ClientMessage → Bool
may_send copying awaiting (Query text) = not awaiting
may_send copying awaiting (Parse name query types) = not awaiting
may_send copying awaiting (Bind portal statement formats values result_formats) = not awaiting
may_send copying awaiting (Describe variant name) = not awaiting
may_send copying awaiting (Execute portal max_rows) = not awaiting
may_send copying awaiting (Close variant name) = not awaiting
may_send copying awaiting Sync = true
may_send copying awaiting Flush = true
may_send copying awaiting (CopyData bytes) = copying
may_send copying awaiting CopyDone = copying
may_send copying awaiting (CopyFail reason) = copying
may_send copying awaiting m = false

abbrev pub can_send : Shown → ClientMessage → Bool
can_send c m = is_logged_in c && may_send (is_copying c.talk) (awaits_data c.talk) m

-- the log-in is done, and no data of a copy are awaited
abbrev pub may_ask : Shown → Bool
may_ask c = is_logged_in c && not (awaits_data c.talk)

-- names go on from 0 after the greatest
abbrev pub next_name : ℕ → ℕ
next_name n = if n == 18446744073709551615 then 0 else n + 1

abbrev pub asked_of : Option Request → ℕ → Talk → Talk
asked_of None n t = t
asked_of (Some r) n t = asked t (record { request = r; name = n })

-- after this message was sent
abbrev pub said : ClientMessage → Shown → Shown
said m c = record { phase = c.phase; login = c.login; out = c.out ++ bytes_of m; incoming = c.incoming; talk = asked_of (request_of m) c.names c.talk; server = c.server; offered = c.offered; names = next_name c.names; limit = c.limit }

-- The message was added to what is to be sent, and asked of the server under this name.
pub record Sent (m : ClientMessage) (old new : Shown) (name : ℕ) : Type 0 where
  pub may : can_send old m ≡ true
  pub added : Added m old.out new.out
  pub named : name ≡ old.names
  pub is : new ≡ said m old

abbrev pub Sends : {A : Type 0} → Type 0 → ClientMessage → Shown → Shown → Result ℕ (ConnectionError A) → Type 0
Sends lacks m old new (Ok name) = Sent m old new name
Sends lacks m old new (Err OutOfPhase) = (can_send old m ≡ false) × (new ≡ old)
Sends lacks m old new (Err (Unwritten e)) = (can_send old m ≡ true) × Unsent lacks m e × (new ≡ old)
Sends lacks m old new (Err OutOfMemory) = (can_send old m ≡ true) × lacks × (new ≡ old)
Sends lacks m old new (Err e) = ⊥

-- A request of messages that iterators gave: `Whole` says which it is, and `Refuses` why a writer rejects it.
abbrev pub SendsGiven : {A : Type 0} → Type 0 → (ClientMessage → Type 0) → (Error → Type 0) → Shown → Shown → Result ℕ (ConnectionError A) → Type 0
SendsGiven lacks Whole Refuses old new (Ok name) = (m : ClientMessage) × Whole m × Sent m old new name
SendsGiven lacks Whole Refuses old new (Err OutOfPhase) = (may_ask old ≡ false) × (new ≡ old)
SendsGiven lacks Whole Refuses old new (Err (Unwritten e)) = (may_ask old ≡ true) × Refuses e × (new ≡ old)
SendsGiven lacks Whole Refuses old new (Err OutOfMemory) = (may_ask old ≡ true) × lacks × (new ≡ old)
SendsGiven lacks Whole Refuses old new (Err e) = ⊥

-- *private*: the request was noted whose message was written, or the message was taken back
abbrev pub with_out : List ℕ → Shown → Shown
with_out out c = record { phase = c.phase; login = c.login; out = out; incoming = c.incoming; talk = c.talk; server = c.server; offered = c.offered; names = c.names; limit = c.limit }

abbrev pub noted : Request → Shown → Shown
noted r c = record { phase = c.phase; login = c.login; out = c.out; incoming = c.incoming; talk = asked c.talk (record { request = r; name = c.names }); server = c.server; offered = c.offered; names = next_name c.names; limit = c.limit }

abbrev pub Noted : Type 0 → ℕ → Request → Shown → Shown → Option ℕ → Type 0
Noted lacks place r old new (Some name) = (name ≡ old.names) × (new ≡ noted r old)
Noted lacks place r old new None = lacks × (new ≡ with_out (take place old.out) old)

abbrev pub Notes : {A : Type 0} → Type 0 → ℕ → Request → Shown → Shown → Result ℕ (ConnectionError A) → Type 0
Notes lacks place r old new (Ok name) = (name ≡ old.names) × (new ≡ noted r old)
Notes lacks place r old new (Err OutOfMemory) = lacks × (new ≡ with_out (take place old.out) old)
Notes lacks place r old new (Err e) = ⊥

-- so many bytes were sent
abbrev pub dropped : ℕ → Shown → Shown
dropped n c = record { phase = c.phase; login = c.login; out = drop n c.out; incoming = c.incoming; talk = c.talk; server = c.server; offered = c.offered; names = c.names; limit = c.limit }

-- ---- what comes

abbrev pub fed : List ℕ → Shown → Shown
fed piece c = record { phase = c.phase; login = c.login; out = c.out; incoming = c.incoming ++ piece; talk = c.talk; server = c.server; offered = c.offered; names = c.names; limit = c.limit }

abbrev pub Feeds : {A : Type 0} → Type 0 → List ℕ → Shown → Shown → Result (Unit {0}) (ConnectionError A) → Type 0
Feeds lacks piece old new (Ok done) = (old.phase ≡ Started) × (new ≡ fed piece old)
Feeds lacks piece old new (Err OutOfPhase) = (old.phase ≢ Started) × (new ≡ old)
Feeds lacks piece old new (Err OutOfMemory) = (old.phase ≡ Started) × lacks × (new ≡ old)
Feeds lacks piece old new (Err e) = ⊥

-- how long a message may be now
abbrev pub limit_of : Shown → ℕ
limit_of c = timely.limit_of (is_logged_in c) c.limit

abbrev pub in_phase : ConnectionPhase → Shown → Shown
in_phase phase c = record { phase = phase; login = c.login; out = c.out; incoming = c.incoming; talk = c.talk; server = c.server; offered = c.offered; names = c.names; limit = c.limit }

abbrev pub with_incoming : List ℕ → Shown → Shown
with_incoming rest c = record { phase = c.phase; login = c.login; out = c.out; incoming = rest; talk = c.talk; server = c.server; offered = c.offered; names = c.names; limit = c.limit }

-- what a message does to the phase, to the dialogue and to what is known of the server's session
abbrev pub moved : ConnectionPhase → Talk → Message → Shown → Shown
moved phase t m c = record { phase = phase; login = c.login; out = c.out; incoming = c.incoming; talk = t; server = heard m c.server; offered = c.offered; names = c.names; limit = c.limit }

-- what it does in the log-in
abbrev pub with_login : Login → List ℕ → Shown → Shown
with_login l out c = record { phase = c.phase; login = l; out = out; incoming = c.incoming; talk = c.talk; server = c.server; offered = c.offered; names = c.names; limit = c.limit }

-- after a message that wasn't taken, with all else as it was
abbrev pub left_at : ConnectionPhase → Talk → Login → Said → Shown → Shown
left_at phase t l s c = record { phase = phase; login = l; out = c.out; incoming = c.incoming; talk = t; server = s; offered = c.offered; names = c.names; limit = c.limit }

-- A message that may come now.
abbrev pub ComesInTime : Shown → Message → Type 0
ComesInTime c m = IsTimely (done_at c.login.phase) c.server.state.version c.offered m

abbrev pub is_part : Event → Bool
is_part (Part n) = true
is_part e = false

-- *private*: a row or data of a copy, which are a part of an answer and nothing else
abbrev pub is_bulk : Message → Event → Bool
is_bulk (DataRow row) e = is_part e
is_bulk (DataCame bytes) e = is_part e
is_bulk m e = false

-- The message was attributed so, what it reports was kept, and the log-in took it: its reply was appended.
pub record Took (m : Message) (old new : Shown) (e : Event) : Type 0 where
  pub taken : taken old.talk (kind_of m) ≡ Ok (e, new.talk)
  pub due : ComesInTime old m
  pub sound : lacks_status m ≡ false
  pub kept : HasRoom most (setting_in m) old.server.settings
  pub goes_on : is_end e ≡ false
  pub logged : Simulates (asking m) old.login new.login old.out new.out
  pub is : new ≡ with_login new.login new.out (moved old.phase new.talk m old)

-- It ended the session.
pub record TookEnd (m : Message) (old new : Shown) (e : Event) : Type 0 where
  pub taken : taken old.talk (kind_of m) ≡ Ok (e, new.talk)
  pub kept : HasRoom most (setting_in m) old.server.settings
  pub ends : is_end e ≡ true
  pub is : new ≡ moved Over new.talk m old

module _ {A : Type 0} (lacks : Type 0) where
  -- Why a message isn't taken, and what is left in this phase: it isn't attributed, so that no message is any more; or it comes before the log-in is done; or its
  -- status is none; or what it reports can't be kept; or the log-in stops at it, and is no further.
  abbrev pub IsUnfit : Shown → Message → ConnectionError A → Type 0
  IsUnfit c m e = (¬ ComesInTime c m × (e ≡ Undue)) ⊎ (ComesInTime c m × (lacks_status m ≡ true) × (e ≡ BadStatus))

  abbrev pub Stops : ConnectionPhase → Message → Shown → Shown → ConnectionError A → Type 0
  Stops phase m old new e = ((r : Refusal) × (taken old.talk (kind_of m) ≡ Err r) × (e ≡ Misplaced r) × (new.talk.stage ≡ NothingMore)
      × (new ≡ left_at phase new.talk old.login old.server old))
      ⊎ ((x : Event × Talk) × (taken old.talk (kind_of m) ≡ Ok x) × IsUnfit old m e × (new ≡ left_at phase x.1 old.login old.server old))
      ⊎ ((x : Event × Talk) × (taken old.talk (kind_of m) ≡ Ok x) × (cause : Error) × IsUnkept lacks most (setting_in m) old.server.settings cause × (e ≡ Unkept cause)
      × (new ≡ left_at phase x.1 old.login old.server old))
      ⊎ ((x : Event × Talk) × (taken old.talk (kind_of m) ≡ Ok x) × HasRoom most (setting_in m) old.server.settings × (is_end x.0 ≡ false)
      × ((f : LoginError A) × (e ≡ error_of f) × DeclinesSo lacks (asking m) old.login (fault f)) × (new.login.phase ≡ old.login.phase)
      × (new ≡ left_at phase x.1 new.login (heard m old.server) old))

  abbrev pub Takes : Message → Shown → Shown → Result Event (ConnectionError A) → Type 0
  Takes m old new (Ok e) = Took m old new e ⊎ TookEnd m old new e
  Takes m old new (Err e) = Stops old.phase m old new e

  abbrev pub Hears : Message → Shown → Shown → Result (Option (Event × Message)) (ConnectionError A) → Type 0
  Hears m old new (Ok None) = ⊥
  Hears m old new (Ok (Some x)) = (x.1 ≡ m) × (Took m old new x.0 ⊎ TookEnd m old new x.0)
  Hears m old new (Err e) = Stops Over m old new e

  -- What a call for the next message comes to.
  pub data Nexts (old new : Shown) : Result (Option (Event × Message)) (ConnectionError A) → Type 0 where
    -- none is awaited
    OutOfTurn : old.phase ≢ Started → new ≡ old → Nexts old new (Err OutOfPhase)
    IsLonger : old.phase ≡ Started → is_longer (limit_of old) old.incoming ≡ true → new ≡ in_phase Over old → Nexts old new (Err TooLong)
    -- bytes are missing, of a message within the limit
    IsCut : old.phase ≡ Started → is_longer (limit_of old) old.incoming ≡ false → IsPartial old.incoming → new ≡ old → Nexts old new (Ok None)
    WantsMemory : old.phase ≡ Started → is_longer (limit_of old) old.incoming ≡ false → BeginsWithKept old.incoming → lacks → new ≡ old → Nexts old new (Err OutOfMemory)
    -- what came is no message
    IsNone : (e : Error) (rest : List ℕ) → old.phase ≡ Started → is_longer (limit_of old) old.incoming ≡ false → Step lacks old.incoming (Err e) rest → e ≢ NoMemory
        → new ≡ in_phase Over (with_incoming rest old) → Nexts old new (Err (Malformed e))
    Comes : (m : Message) (rest : List ℕ) {result : Result (Option (Event × Message)) (ConnectionError A)} → old.phase ≡ Started → is_longer (limit_of old) old.incoming ≡ false
        → TakesFrame old.incoming (Ok m) rest → Hears m (with_incoming rest old) new result → Nexts old new result

-- *private*: the answer for a message
abbrev pub answered : {A : Type 0} → Message → Result Event (ConnectionError A) → Result (Option (Event × Message)) (ConnectionError A)
answered m (Ok e) = Ok (Some (e, m))
answered m (Err e) = Err e

-- A message is taken: one was awaited, and a whole one within the limit had come.
abbrev pub IsNext : Shown → Message → Type 0
IsNext c m = (c.phase ≡ Started) × (is_longer (limit_of c) c.incoming ≡ false) × ((rest : List ℕ) × TakesFrame c.incoming (Ok m) rest)

-- The same of a call that leaves the message to be read in place, whatever it comes to: this is its frame then, and where none is taken there is none. It never
-- lacks memory for a message.
abbrev pub Advances : {A : Type 0} → Type 0 → Shown → Shown → List ℕ → Result (Option Event) (ConnectionError A) → Type 0
Advances {A} lacks old new frame (Ok (Some e)) = (m : Message) × Reads frame (Some m) × Nexts {A = A} lacks old new (Ok (Some (e, m)))
Advances {A} lacks old new frame (Ok None) = Reads frame None × Nexts {A = A} lacks old new (Ok None)
Advances {A} lacks old new frame (Err e) = (((m : Message) × IsNext old m × Reads frame (Some m)) ⊎ (Reads frame None × ((m : Message) → IsNext old m → ⊥)))
    × (e ≢ OutOfMemory) × Nexts {A = A} lacks old new (Err e)

-- the call's answer, with the message as what it says
abbrev pub nexted : {A : Type 0} {E : Type 0} → Result (Option (Event × code.Message.Message A)) E → Result (Option (Event × Message)) E
nexted (Ok None) = Ok None
nexted (Ok (Some x)) = Ok (Some (x.0, view x.1))
nexted (Err e) = Err e

-- ---- the front of a session, and its end

-- a message that isn't answered by itself was written, and the phase is then this
abbrev pub written : ConnectionPhase → ClientMessage → Shown → Shown
written phase m c = record { phase = phase; login = c.login; out = c.out ++ bytes_of m; incoming = c.incoming; talk = c.talk; server = c.server; offered = c.offered; names = c.names; limit = c.limit }

-- It was, in this phase, which leads to that one.
pub record Wrote (here next : ConnectionPhase) (m : ClientMessage) (old new : Shown) : Type 0 where
  pub phase : old.phase ≡ here
  pub added : Added m old.out new.out
  pub is : new ≡ written next m old

-- A call that belongs to this phase writes the message, and leads to that one.
abbrev pub Writes : {A : Type 0} → Type 0 → ConnectionPhase → ConnectionPhase → ClientMessage → Shown → Shown → Result (Unit {0}) (ConnectionError A) → Type 0
Writes lacks here next m old new (Ok done) = Wrote here next m old new
Writes lacks here next m old new (Err OutOfPhase) = (old.phase ≢ here) × (new ≡ old)
Writes lacks here next m old new (Err (Unwritten e)) = (old.phase ≡ here) × Unsent lacks m e × (new ≡ old)
Writes lacks here next m old new (Err e) = ⊥

-- the one byte that answers the request for encryption
abbrev pub letter : Bool → ℕ
letter true = 0x53  -- S
letter false = 0x4e  -- N

-- after that answer
abbrev pub told : Bool → Shown → Shown
told encrypts c = with_login (encrypted_by encrypts c.login) c.out (in_phase Opening c)

-- What the bytes come to that answer it: whether the server encrypts, once there is one byte. Anything else, as bytes that came with that one, ends the connection.
abbrev pub Answers : {A : Type 0} → List ℕ → Shown → Shown → Result (Option Bool) (ConnectionError A) → Type 0
Answers piece old new (Ok None) = (old.phase ≡ Encrypting) × (piece ≡ []) × (new ≡ old)
Answers piece old new (Ok (Some encrypts)) = (old.phase ≡ Encrypting) × (piece ≡ letter encrypts ∷ []) × (new ≡ told encrypts old)
Answers piece old new (Err OutOfPhase) = (old.phase ≢ Encrypting) × (new ≡ old)
Answers piece old new (Err BadAnswer) = (old.phase ≡ Encrypting) × (piece ≢ []) × ((encrypts : Bool) → piece ≢ letter encrypts ∷ []) × (new ≡ in_phase Over old)
Answers piece old new (Err e) = ⊥

-- the name of a protocol option begins so
abbrev pub is_option : List ℕ → Bool
is_option name = starts_with nat_eq name (codes "_pq_.")

-- those of a packet
abbrev pub options_of : ClientMessage → List (List ℕ)
options_of (Startup minor parameters) = filter is_option (map (λ (p : List ℕ × List ℕ). p.0) parameters)
options_of m = []

-- the startup packet that asks for these versions
abbrev pub packet_of : Versions → List (List ℕ × List ℕ) → ClientMessage
packet_of asked parameters = Startup (minor_of (newest asked)) parameters

abbrev pub started : Versions → ClientMessage → Shown → Shown
started asked m c = record { phase = Started; login = c.login; out = c.out ++ bytes_of m; incoming = c.incoming; talk = asked_of (request_of m) c.names c.talk; server = c.server; offered = record { versions = asked; options = options_of m }; names = next_name c.names; limit = c.limit }

-- The startup packet was written, and asked of the server under this name.
pub record HasStarted (asked : Versions) (m : ClientMessage) (old new : Shown) (name : ℕ) : Type 0 where
  pub phase : old.phase ≡ Opening
  pub added : Added m old.out new.out
  pub named : name ≡ old.names
  pub is : new ≡ started asked m old

-- The startup packet was written, and its answer is awaited under the next name.
abbrev pub Starts : {A : Type 0} → Type 0 → Versions → ClientMessage → Shown → Shown → Result ℕ (ConnectionError A) → Type 0
Starts lacks asked m old new (Ok name) = HasStarted asked m old new name
Starts lacks asked m old new (Err OutOfPhase) = (old.phase ≢ Opening) × (new ≡ old)
Starts lacks asked m old new (Err (Unwritten e)) = (old.phase ≡ Opening) × Unsent lacks m e × (new ≡ old)
Starts lacks asked m old new (Err OutOfMemory) = (old.phase ≡ Opening) × lacks × (new ≡ old)
Starts lacks asked m old new (Err e) = ⊥

-- the version that is spoken
abbrev pub version_of : Shown → ProtocolVersion
version_of c = spoken c.offered.versions c.server.state.version

-- The request to cancel was appended, if the server said a key.
abbrev pub Cancels : {A : Type 0} → Type 0 → Shown → List ℕ → List ℕ → Result (Unit {0}) (ConnectionError A) → Type 0
Cancels lacks c old new (Ok done) = (k : KeyData) × (c.server.state.key ≡ Some k) × Added (CancelRequest k.process_id k.secret_key) old new
Cancels lacks c old new (Err OutOfPhase) = (c.server.state.key ≡ None) × (new ≡ old)
Cancels lacks c old new (Err (Unwritten e)) = (k : KeyData) × (c.server.state.key ≡ Some k) × Unsent lacks (CancelRequest k.process_id k.secret_key) e × (new ≡ old)
Cancels lacks c old new (Err e) = ⊥

-- ---- the code's record

-- what it keeps of the startup packet
abbrev pub offered_in : {A : Type 0} → KeptOffered A → Offered
offered_in o = record { versions = o.versions; options = o.names.items }

-- *private*: what the messages of the server change, with all else as it is there
abbrev pub in_state : {A : Type 0} → ConnectionState A → Shown → Shown
in_state s c = record { phase = s.phase; login = seen s.login; out = s.out.items; incoming = c.incoming; talk = talk_of (λ q. q.items) s.dialogue; server = record { state = s.server; settings = s.settings }; offered = offered_in s.offered; names = c.names; limit = c.limit }

abbrev pub shown : {A : Type 0} → Kept A → Shown
shown c = record { phase = c.state.phase; login = seen c.state.login; out = c.state.out.items; incoming = c.incoming.rest; talk = talk_of (λ q. q.items) c.state.dialogue; server = record { state = c.state.server; settings = c.state.settings }; offered = offered_in c.state.offered; names = c.names; limit = c.limit }

-- the frame of the message that is read in place, or nothing
abbrev pub current : {A : Type 0} → Kept A → List ℕ
current c = c.incoming.current

-- ---- what has ended

abbrev pub name_or : ℕ → Option ℕ → ℕ
name_or n None = n
name_or n (Some m) = m

abbrev pub open_in_phase : ConnectionPhase → Shown → ℕ
open_in_phase Started c = name_or c.names (first_open c.talk)
open_in_phase p c = c.names

-- the requests whose names are below this one have ended; where all have, it is the name of the next
abbrev pub open_from : Shown → ℕ
open_from c = open_in_phase c.phase c
