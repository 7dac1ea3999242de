-- A dialogue in memory of the caller's: which of a server's messages answers which of a client's requests.
use Rattle.std.specs.Prelude.{◌≡◌, ◌<◌, ◌⊎◌, ℕ, Option, Some, None, Ok, Err, length, ◌==◌, if◌then◌else◌}
use Rattle.pgp_client.specs.Codes.{refusal_at, stage_at}
use Rattle.pgp_client.specs.Slots.{held_between}
use Rattle.pgp_client.specs.Taking.{Takes, taken}
use Rattle.pgp_client.specs.Talk.{Talk}
use Rattle.pgp_client.specs.declared.event.Event.{Event}
use Rattle.pgp_client.specs.declared.event.Event.TheVariants.{Aside, Ended, Last, Part}
use Rattle.pgp_client.specs.declared.event.Refusal.{Refusal}
use Rattle.pgp_client.specs.declared.kind.Kind.{Kind}
use Rattle.pgp_client.specs.declared.kind.Kind.TheVariants as kinds
use Rattle.for_c.specs.declared.dialogue.PgpDialogue.{PgpDialogue}
use Rattle.for_c.specs.declared.dialogue.PgpEvent.{PgpEvent}

-- the dialogue that the caller keeps
abbrev pub talk_of : PgpDialogue → Talk
talk_of d = record { stage = stage_at d.stage; name = d.name; pending = held_between d.room.now d.start d.end }

-- its requests stand at no places of the room
abbrev pub IsBroken : PgpDialogue → Type 0
IsBroken d = (d.end < d.start) ⊎ (length d.room.now < d.end)

-- a kind of a server's messages by the number that `pgp_front` gives; 33 is a copy both ways, 34 the result of a function call
abbrev pub kind_at : ℕ → Option Kind
kind_at n =
    if n == 1 then Some kinds.Authentication
    else (if n == 2 then Some kinds.Authentication
    else (if n == 3 then Some kinds.Authentication
    else (if n == 4 then Some kinds.Authentication
    else (if n == 5 then Some kinds.Authentication
    else (if n == 6 then Some kinds.AuthenticationOk
    else (if n == 7 then Some kinds.Authentication
    else (if n == 8 then Some kinds.Authentication
    else (if n == 9 then Some kinds.Authentication
    else (if n == 10 then Some kinds.Authentication
    else (if n == 11 then Some kinds.Authentication
    else (if n == 12 then Some kinds.BackendKeyData
    else (if n == 13 then Some kinds.BindComplete
    else (if n == 14 then Some kinds.CloseComplete
    else (if n == 15 then Some kinds.CommandComplete
    else (if n == 16 then Some kinds.CopyData
    else (if n == 17 then Some kinds.CopyDone
    else (if n == 18 then Some kinds.CopyInResponse
    else (if n == 19 then Some kinds.CopyOutResponse
    else (if n == 20 then Some kinds.DataRow
    else (if n == 21 then Some kinds.EmptyQueryResponse
    else (if n == 22 then Some kinds.ErrorResponse
    else (if n == 23 then Some kinds.NoData
    else (if n == 24 then Some kinds.NoticeResponse
    else (if n == 25 then Some kinds.NotificationResponse
    else (if n == 26 then Some kinds.ParameterDescription
    else (if n == 27 then Some kinds.ParameterStatus
    else (if n == 28 then Some kinds.ParseComplete
    else (if n == 29 then Some kinds.PortalSuspended
    else (if n == 30 then Some kinds.ReadyForQuery
    else (if n == 31 then Some kinds.RowDescription
    else (if n == 32 then Some kinds.NegotiateProtocolVersion
    else (if n == 33 then Some kinds.CopyBothResponse
    else (if n == 34 then Some kinds.FunctionCallResponse
    else None)))))))))))))))))))))))))))))))))

-- what is reported of a message: which part of an answer it is, and of which request; 0 stands for the name where it is of none
abbrev pub event_of : Event → PgpEvent
event_of (Part n) = record { name = n; what = 1 }
event_of (Last n) = record { name = n; what = 2 }
event_of Aside = record { name = 0; what = 3 }
event_of Ended = record { name = 0; what = 4 }

-- the memory is as long as it was, and requests that stood at its places do so still
pub record KeepsRoom (old new : PgpDialogue) : Type 0 where
  pub room : length new.room.now ≡ length old.room.now
  pub whole : ¬ IsBroken old → ¬ IsBroken new

-- The message was taken as the dialogue takes it, and the event says so.
abbrev pub TakesMessage : PgpDialogue → PgpDialogue → ℕ → PgpEvent → Type 0
TakesMessage old new kind event = (k : Kind) × (kind_at kind ≡ Some k) × (e : Event) × (event ≡ event_of e) × Takes (taken (talk_of old) k) (Ok e) (talk_of new)

-- The message has no place there, as the code says: from then on no message is given to a request.
abbrev pub RejectsMessage : PgpDialogue → PgpDialogue → ℕ → ℕ → Type 0
RejectsMessage old new kind code = (k : Kind) × (kind_at kind ≡ Some k) × (r : Refusal) × (refusal_at code ≡ Some r) × Takes (taken (talk_of old) k) (Err r) (talk_of new)
