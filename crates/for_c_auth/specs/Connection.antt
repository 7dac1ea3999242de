-- A client's connection in memory of the caller's: what each message of the server comes to, and what may be asked.
-- PostgreSQL manual, "Message Flow".
use Rattle.std.specs.Prelude.{◌≡◌, ◌≢◌, ◌⊎◌, ℕ, ◌+◌, ◌<◌, Bool, true, false, not, List, [], length, take, Option, Some, Ok, Err, if◌then◌else◌, ◌==◌, ◌&&◌}
use Rattle.pgp_base.specs.Error.{number_of}
use Rattle.pgp_base.specs.declared.error.Error.{Error}
use Rattle.pgp_client.specs.Codes.{refusal_at, stage_at}
use Rattle.pgp_client.specs.Kinds.{kind_of}
use Rattle.pgp_client.specs.Limits.{is_longer, lacks_status}
use Rattle.pgp_client.specs.Slots.{held_between}
use Rattle.pgp_client.specs.Taking.{asked, awaits_data, is_copying, is_end, is_idle, taken}
use Rattle.pgp_client.specs.Talk.{Talk}
use Rattle.pgp_client.specs.declared.event.Event.{Event}
use Rattle.pgp_client.specs.declared.event.Event.TheVariants.{Aside, Ended, Last, Part}
use Rattle.pgp_client.specs.declared.event.Refusal.{Refusal}
use Rattle.pgp_client.specs.declared.request.Request.{Request}
use Rattle.pgp_client.specs.declared.request.Request.TheVariants as requests
use Rattle.pgp_client.specs.declared.stage.Stage.TheVariants.{Over}
use Rattle.pgp_message.specs.BackendMessage.{Message, BackendKeyData, ReadyForQuery}
use Rattle.pgp_message.specs.Parts.{KeyData, Setting}
use Rattle.pgp_message.specs.Stream.{IsPartial, Step, TakesFrame}
use Rattle.for_c_auth.specs.Answering.{HasAnswered, NotAnsweredFor, asking, awaits_request, done}
use Rattle.for_c_auth.specs.Delivering.{Delivered}
use Rattle.for_c_auth.specs.Settings.{kept_in, settled}
use Rattle.pgp_login.specs.Face.{answered_at, offered_in}
use Rattle.pgp_login.specs.Timely as timely
use Rattle.pgp_login.specs.Versions.{answered, newer}
use Rattle.pgp_frontend.specs.declared.startup.ProtocolVersion.{ProtocolVersion}
use Rattle.pgp_login.specs.declared.face.PgpWays.{PgpWays}
use Rattle.for_c_auth.specs.declared.connection.PgpConnection.{PgpConnection}
use Rattle.for_c_auth.specs.declared.connection.PgpTaken.{PgpTaken}
use Rattle.pgp_login.specs.declared.face.PgpLogin.{PgpLogin}
use Rattle.for_c_auth.specs.declared.talk.PgpTalk.{PgpTalk}

-- the dialogue that the caller keeps
abbrev pub talk_of : PgpTalk → Talk
talk_of d = record { stage = stage_at d.stage; name = d.name; pending = held_between d.room.now d.start d.end }

-- its requests stand at no places of the room
abbrev pub IsBroken : PgpTalk → Type 0
IsBroken d = (d.end < d.start) ⊎ (length d.room.now < d.end)

-- the memory is as long as it was, and requests that stood at its places do so still
pub record KeepsRoom (old new : PgpTalk) : Type 0 where
  pub room : length new.room.now ≡ length old.room.now
  pub whole : ¬ IsBroken old → ¬ IsBroken new

-- A connection as a value: whether it is over, the log-in, the dialogue, and what the server said last of its session: the settings that are kept, the status of the last
-- ReadyForQuery, 0 before the first, and the key of a cancel request, which has no byte before it came.
pub record Link : Type 0 where
  pub is_over : Bool
  pub login : PgpLogin
  pub talk : Talk
  pub settings : List Setting
  pub status : ℕ
  pub key : KeyData
  -- the version that the server answered, if it did
  pub version : Option ProtocolVersion

abbrev pub link_of : PgpConnection → Link
link_of c = record {
  is_over = c.is_over;
  login = c.login;
  talk = talk_of c.dialogue;
  settings = kept_in c.settings;
  status = c.status;
  key = record { process_id = c.process_id; secret_key = take c.key_len c.secret_key };
  version = answered_at c.version;
}

-- the log-in is done
abbrev pub is_done : PgpLogin → Bool
is_done l = l.phase == done

-- ---- what comes

-- how long a message may be now
abbrev pub limit_of : PgpWays → PgpLogin → ℕ
limit_of w l = timely.limit_of (is_done l) w.limit

-- A message that may come now, where the server answered this about versions.
abbrev pub IsTimely : PgpWays → PgpLogin → Option ProtocolVersion → Message → Type 0
IsTimely w l before m = timely.IsTimely (is_done l) before (offered_in w) m

abbrev pub ComesInTime : PgpWays → Link → Message → Type 0
ComesInTime w c m = IsTimely w c.login c.version m

-- it may come now, with a status that is one
abbrev pub FitsAt : PgpWays → PgpLogin → Option ProtocolVersion → Message → Type 0
FitsAt w l before m = IsTimely w l before m × (lacks_status m ≡ false)

abbrev pub IsFit : PgpWays → Link → Message → Type 0
IsFit w c m = FitsAt w c.login c.version m

-- the status and the key after a message
abbrev pub status_after : Message → ℕ → ℕ
status_after (ReadyForQuery s) before = s
status_after m before = before

abbrev pub key_after : Message → KeyData → KeyData
key_after (BackendKeyData key) before = key
key_after m before = before

-- what is reported of a message: which part of an answer it is, and of which request, and how many bytes it has
abbrev pub reported_as : Event → ℕ → PgpTaken
reported_as (Part n) frame = record { name = n; frame = frame; what = 1 }
reported_as (Last n) frame = record { name = n; frame = frame; what = 2 }
reported_as Aside frame = record { name = 0; frame = frame; what = 3 }
reported_as Ended frame = record { name = 0; frame = frame; what = 4 }

-- after what a message says, where so many bytes are given for settings
abbrev pub noted : ℕ → Message → Event → Link → Link
noted given m e c = record { is_over = is_end e; login = c.login; talk = c.talk; settings = settled given m c.settings; status = status_after m c.status; key = key_after m c.key; version = newer c.version (answered m) }

-- the same with this dialogue; and over
abbrev pub with_talk : Talk → Link → Link
with_talk t c = record c { talk = t }

abbrev pub ended : Link → Link
ended c = record c { is_over = true }

abbrev pub with_key : KeyData → Link → Link
with_key k c = record c { key = k }

abbrev pub with_login : PgpLogin → Link → Link
with_login l c = record c { login = l }

-- The message was attributed so, the log-in answered it, and what it says was noted.
pub record Took (w : PgpWays) (given : ℕ) (m : Message) (old new : Link) (e : Event) (reply : List ℕ) : Type 0 where
  pub taken : taken old.talk (kind_of m) ≡ Ok (e, new.talk)
  pub fit : IsFit w old m
  pub logged : HasAnswered w (asking m) old.login new.login [] reply
  pub is : new ≡ noted given m e (with_login new.login (with_talk new.talk old))

-- The dialogue has no place for the message, and the connection is over.
abbrev pub IsMisplaced : Message → Link → Link → ℕ → Type 0
IsMisplaced m old new code = (r : Refusal) × (t : Talk) × (taken old.talk (kind_of m) ≡ Err r) × (t.stage ≡ Over) × (refusal_at code ≡ Some r) × (new ≡ ended (with_talk t old))

-- Why a message has no reply, before the dialogue is asked: it comes too early, its status is none, or the log-in doesn't answer it.
abbrev pub NotRepliedTo : Type 0 → PgpWays → PgpLogin → Option ProtocolVersion → Message → ℕ → Type 0
NotRepliedTo lacks w l answered m code = ((code ≡ 89) × ¬ IsTimely w l answered m) ⊎ (((code ≡ 93) × IsTimely w l answered m × (lacks_status m ≡ true))
    ⊎ (FitsAt w l answered m × NotAnsweredFor lacks w l code (asking m)))

-- Why a message isn't taken, and what is left. Where memory (95), room for the reply (1) or room for a setting (`full`, 96) was lacking, nothing changes. All others end the
-- connection: it isn't attributed, so that no message is any more; it comes before the log-in is done; its status is none; or the log-in doesn't answer it.
pub data Rejects (lacks : Type 0) (full : Message → Type 0) (w : PgpWays) (m : Message) (room : ℕ) (old : Link) : Link → ℕ → Type 0 where
  NoMemory : {new : Link} {code : ℕ} → IsFit w old m → NotAnsweredFor lacks w old.login 1 (asking m) → code ≡ 95 → new ≡ old → Rejects lacks full w m room old new code
  NoRoom : (l : PgpLogin) (reply : List ℕ) {new : Link} {code : ℕ} → IsFit w old m → HasAnswered w (asking m) old.login l [] reply → room < length reply → code ≡ 1 → new ≡ old → Rejects lacks full w m room old new code
  NoSettingRoom : {new : Link} {code : ℕ} → IsFit w old m → full m → code ≡ 96 → new ≡ old → Rejects lacks full w m room old new code
  Misplaced : {new : Link} {code : ℕ} → IsMisplaced m old new code → Rejects lacks full w m room old new code
  Untimely : (e : Event) (t : Talk) {new : Link} {code : ℕ} → taken old.talk (kind_of m) ≡ Ok (e, t) → ¬ ComesInTime w old m → code ≡ 89 → new ≡ ended (with_talk t old) → Rejects lacks full w m room old new code
  NoStatus : (e : Event) (t : Talk) {new : Link} {code : ℕ} → taken old.talk (kind_of m) ≡ Ok (e, t) → ComesInTime w old m → lacks_status m ≡ true → code ≡ 93 → new ≡ ended (with_talk t old) → Rejects lacks full w m room old new code
  Unanswered : (e : Event) (t : Talk) {new : Link} {code : ℕ} → taken old.talk (kind_of m) ≡ Ok (e, t) → IsFit w old m → NotAnsweredFor lacks w old.login code (asking m) → code ≢ 1 → new ≡ ended (with_talk t old)
      → Rejects lacks full w m room old new code

-- the same of a message of so many bytes, with what is reported of it, and the reply handed over
abbrev pub TookSo : PgpWays → ℕ → Message → Link → Link → PgpTaken → ℕ → List ℕ → List ℕ → ℕ → Type 0
TookSo w given m old new said frame out after written = (e : Event) × (reply : List ℕ) × Took w given m old new e reply × (said ≡ reported_as e frame) × Delivered reply out after written

-- The message at the front of the bytes was taken, within the limit, and this is reported of it.
pub record TookNext (w : PgpWays) (given : ℕ) (bytes : List ℕ) (old new : Link) (said : PgpTaken) (out after : List ℕ) (written : ℕ) : Type 0 where
  pub goes_on : old.is_over ≡ false
  pub short : is_longer (limit_of w old.login) bytes ≡ false
  pub message : Message
  pub rest : List ℕ
  pub stands : TakesFrame bytes (Ok message) rest
  pub frame : ℕ
  pub length_is : frame + length rest ≡ length bytes
  pub took : TookSo w given message old new said frame out after written

-- What a call for the next message comes to that takes none.
pub data TookNone (lacks broken : Type 0) (full : Message → Type 0) (w : PgpWays) (bytes out : List ℕ) (old : Link) : Link → ℕ → Type 0 where
  WasOver : {new : Link} {code : ℕ} → old.is_over ≡ true → new ≡ old → code ≡ 32 → TookNone lacks broken full w bytes out old new code
  HasNoPlaces : {new : Link} {code : ℕ} → broken → new ≡ old → code ≡ 1 → TookNone lacks broken full w bytes out old new code
  IsLonger : {new : Link} {code : ℕ} → old.is_over ≡ false → is_longer (limit_of w old.login) bytes ≡ true → new ≡ ended old → code ≡ 94 → TookNone lacks broken full w bytes out old new code
  -- bytes are missing, of a message within the limit
  IsCut : {new : Link} {code : ℕ} → old.is_over ≡ false → is_longer (limit_of w old.login) bytes ≡ false → IsPartial bytes → new ≡ old → code ≡ 100 → TookNone lacks broken full w bytes out old new code
  -- what came is no message
  IsNone : (e : Error) (rest : List ℕ) {new : Link} {code : ℕ} → old.is_over ≡ false → is_longer (limit_of w old.login) bytes ≡ false → Step ⊥ bytes (Err e) rest → new ≡ ended old → code ≡ number_of e
      → TookNone lacks broken full w bytes out old new code
  Comes : (m : Message) (rest : List ℕ) {new : Link} {code : ℕ} → old.is_over ≡ false → is_longer (limit_of w old.login) bytes ≡ false → TakesFrame bytes (Ok m) rest → Rejects lacks full w m (length out) old new code
      → TookNone lacks broken full w bytes out old new code

-- ---- what may be asked

-- A request where no data of a copy are awaited, their end in a copy, and Sync: the messages that a server which awaits data takes among them. A FunctionCall isn't asked so.
abbrev pub may_follow : Bool → Bool → Request → Bool
may_follow copying awaiting requests.Sync = true
may_follow copying awaiting requests.CopyDone = copying
may_follow copying awaiting requests.CopyFail = copying
may_follow copying awaiting requests.FunctionCall = false
may_follow copying awaiting r = not awaiting

-- A startup packet at first, and all others once the log-in is done; none once the connection is over.
abbrev pub may_ask_at : Bool → PgpLogin → Talk → Request → Bool
may_ask_at over l t requests.Startup = not over && ((l.phase == awaits_request) && is_idle t)
may_ask_at over l t r = not over && (is_done l && may_follow (is_copying t) (awaits_data t) r)

abbrev pub may_ask : Link → Request → Bool
may_ask c r = may_ask_at c.is_over c.login c.talk r

abbrev pub asked_of : Request → ℕ → Link → Link
asked_of r name c = with_talk (asked c.talk (record { request = r; name = name })) c
