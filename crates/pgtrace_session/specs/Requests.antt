-- The client's requests, and to which of them each message of the server belongs.
use Rattle.std.specs.Prelude.{ℕ, ◌+◌, ◌-◌, ◌==◌, Bool, false, not, if◌then◌else◌, List, [], ◌∷◌, ◌++◌, length, get_or, Option, None, Some, Result, Ok, Err}
use Rattle.pgtrace_session.specs.Common.{Error, Message, ClientMessage, ClientError, Talk, start, Event, Kind, Asked, Style, LineOf, State, nothing, Side, Role, Told}
use Rattle.pgp_client.specs.Kinds.{kind_of, kind_of_tag, request_of, request_of_tag}
use Rattle.pgp_client.specs.Taking.{asked, taken}
use Rattle.pgp_client.specs.declared.event.Event.TheVariants.{Part, Last, Aside, Ended}
use Rattle.pgp_client.specs.declared.event.Refusal.{Refusal}
use Rattle.pgp_client.specs.declared.request.Request.{Request}
use Rattle.pgtrace_session.specs.declared.role.Role.TheVariants as role
use Rattle.pgtrace_session.specs.declared.placement.Told.TheVariants as told
use Rattle.pgtrace_session.specs.Typed.{Heard, Said, Sent, Unsaid, said_in}

-- ---- what a frame is to the requests

-- what a client's frame asks: what its message asks; and one that is malformed, which a server answers too, what its tag says
abbrev pub asked_by : (frame : List ℕ) → Result ClientMessage ClientError → Option Request
asked_by frame (Ok m) = request_of m
asked_by frame (Err e) = request_of_tag (get_or frame 0 0) (get_or frame 5 0)

abbrev pub asking : Option Request → Role
asking None = role.Other
asking (Some request) = role.Request request

-- The kind of a server's message. One that is malformed has none, and what comes after it can't be placed; FunctionCallResponse and CopyBothResponse have
-- theirs by their tags.
abbrev pub kind_by : (tag : ℕ) → Result Message Error → Option Kind
kind_by tag (Ok m) = Some (kind_of m)
kind_by tag (Err e) = kind_of_tag tag

abbrev pub heard_as : Option Kind → Role
heard_as None = role.Fault
heard_as (Some kind) = role.Message kind

-- what a frame is that is read so
abbrev pub role_by : (frame : List ℕ) → Said → Role
role_by frame (Heard r) = heard_as (kind_by (get_or frame 0 0) r)
role_by frame (Sent r) = asking (asked_by frame r)
role_by frame Unsaid = role.Other

abbrev pub role_in : (style : Style) (place : ℕ) (from : Side) (frame line : List ℕ) (to : Side) → LineOf style place from frame line to → Role
role_in style place from frame line to is = role_by frame (said_in style place from frame line to is)

-- ---- what is known of the requests

-- The dialogue that they and the server's messages are, up to the first message that has no place there; when each request was sent, in order; when the
-- present chunk came; and what they ran, where a summary is asked for.
pub record Numbers : Type 0 where
  pub dialogue : Option Talk
  pub sent : List ℕ
  pub now : ℕ
  pub summary : Option State

abbrev pub first_summary : (summed folds : Bool) → Option State
first_summary summed folds = if summed then Some (nothing folds) else None

-- before the first
abbrev pub no_numbers : (summed folds : Bool) → Numbers
no_numbers summed folds = record { dialogue = Some start; sent = []; now = 0; summary = first_summary summed folds }

-- nothing is known where they aren't numbered
abbrev pub first_numbers : (numbered summed folds : Bool) → Option Numbers
first_numbers numbered summed folds = if numbered then Some (no_numbers summed folds) else None

-- what they ran, where that is known
abbrev pub summary_in : Option Numbers → Option State
summary_in None = None
summary_in (Some n) = n.summary

-- a chunk comes at this time
abbrev pub at_time : ℕ → Option Numbers → Option Numbers
at_time micros None = None
at_time micros (Some n) = Some (record { dialogue = n.dialogue; sent = n.sent; now = micros; summary = n.summary })

-- ---- a request

abbrev pub asks : Asked → Option Talk → Option Talk
asks a None = None
asks a (Some dialogue) = Some (asked dialogue a)

-- the number of the next one
abbrev pub next_number : Numbers → ℕ
next_number n = length n.sent + 1

-- one more request, which is sent now
abbrev pub ask : Request → Numbers → Numbers
ask request n = record { dialogue = asks (record { request = request; name = next_number n }) n.dialogue; sent = n.sent ++ n.now ∷ []; now = n.now; summary = n.summary }

-- ---- a message of the server

abbrev pub placed : Result (Event × Talk) Refusal → Option Event × Option Talk
placed (Ok x) = (Some x.0, Some x.1)
placed (Err e) = (None, None)

-- to which request a message of this kind belongs, and the dialogue after it; neither from the first on that has no place there
abbrev pub place : Kind → Option Talk → Option Event × Option Talk
place kind None = (None, None)
place kind (Some dialogue) = placed (taken dialogue kind)

abbrev pub with_dialogue : Option Talk → Numbers → Numbers
with_dialogue dialogue n = record { dialogue = dialogue; sent = n.sent; now = n.now; summary = n.summary }

-- What its mark says, where requests were sent at these times: the number of its request, and when that and this came. An error that ends the session
-- belongs to none.
abbrev pub told_of : (sent : List ℕ) (now : ℕ) → Option Event → Told
told_of sent now (Some (Part number)) = told.Answer number (get_or sent (number - 1) 0) now
told_of sent now (Some (Last number)) = told.Answer number (get_or sent (number - 1) 0) now
told_of sent now (Some Aside) = told.Nothing
told_of sent now (Some Ended) = told.Nothing
told_of sent now None = told.Lost

-- ---- a frame

-- what its mark says of requests, and what is known of them after it
abbrev pub tell : Role → Numbers → Told × Numbers
tell (role.Request request) n = (told.Number (next_number n), ask request n)
tell (role.Message kind) n = (told_of n.sent n.now (place kind n.dialogue).0, with_dialogue (place kind n.dialogue).1 n)
tell role.Fault n = (told.Lost, with_dialogue None n)
tell role.Other n = (told.Nothing, n)

-- Whether nothing is noted of a server's frame: requests aren't counted, and no message of its tag asks for one of tag `p`.
abbrev pub notes_nothing : Option Numbers → (frame : List ℕ) → Bool
notes_nothing None frame = not (get_or frame 0 0 == 82)  -- R
notes_nothing (Some n) frame = false

-- what the mark of a last line says, which is no message's
abbrev pub unnumbered : Option Numbers → Told
unnumbered None = told.Uncounted
unnumbered (Some n) = told.Nothing
