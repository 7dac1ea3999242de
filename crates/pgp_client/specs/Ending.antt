-- Which of a client's requests are to end, and which end when: each with its answer's last message, or because the server passes over it.
-- PostgreSQL manual, "Message Flow": "Extended Query", "Pipelining", "COPY Operations".
use Rattle.std.specs.Prelude.{◌≡◌, ◌<◌, ◌⊎◌, ℕ, Bool, true, false, if◌then◌else◌, List, [], ◌∷◌, ◌++◌, Option, Some, None, Result, Ok, Err}
use Rattle.pgp_client.specs.InTurns.{IsAmong}
use Rattle.pgp_client.specs.Talk.{Talk}
use Rattle.pgp_client.specs.Taking.{asked, first_in, is_passed, taken}
use Rattle.pgp_client.specs.Telling.{Turn, Asks, Hears, start}
use Rattle.pgp_client.specs.declared.request.Asked.{Asked}
use Rattle.pgp_client.specs.declared.request.Request.{Request}
use Rattle.pgp_client.specs.declared.request.Request.TheVariants as requests
use Rattle.pgp_client.specs.declared.kind.Kind.{Kind}
use Rattle.pgp_client.specs.declared.kind.Kind.TheVariants as kinds
use Rattle.pgp_client.specs.declared.event.Event.{Event}
use Rattle.pgp_client.specs.declared.event.Event.TheVariants.{Part, Last, Aside, Ended}
use Rattle.pgp_client.specs.declared.event.Refusal.{Refusal}
use Rattle.pgp_client.specs.declared.stage.Stage.{Stage}
use Rattle.pgp_client.specs.declared.stage.Stage.TheVariants.{Idle, Skipping, Over}

abbrev pub first_name : List Asked → Option ℕ
first_name [] = None
first_name (a ∷ rest) = Some a.name

-- The name of the first request that is to end: the one under way, else the first of those pending that the server doesn't pass over.
abbrev pub first_open_at : Stage → ℕ → List Asked → Option ℕ
first_open_at Idle n pending = first_name (first_in false pending)
first_open_at Skipping n pending = first_name (first_in true pending)
first_open_at Over n pending = None
first_open_at s n pending = Some n

abbrev pub first_open : Talk → Option ℕ
first_open t = first_open_at t.stage t.name t.pending

-- ---- in turns

-- the dialogue after a message; one that isn't taken ends it
abbrev pub left_by : Talk → Result (Event × Talk) Refusal → Talk
left_by t (Ok x) = x.1
left_by t (Err r) = record { stage = Over; name = t.name; pending = t.pending }

abbrev pub after : Talk → Turn → Talk
after t (Asks a) = asked t a
after t (Hears k e) = left_by t (taken t k)

-- these requests, and the one that is asked in the turn
abbrev pub with_asked : Turn → List Asked → List Asked
with_asked (Asks a) rs = rs ++ a ∷ []
with_asked (Hears k e) rs = rs

-- Of requests that were to end those that still are: all, while the first of them is under way.
abbrev pub open_at : Stage → List Asked → List Asked → List Asked
open_at Idle pending rs = first_in false pending
open_at Skipping pending rs = first_in true pending
open_at Over pending rs = []
open_at s pending rs = rs

abbrev pub open_in : Talk → List Asked → List Turn → List Asked
open_in t rs [] = rs
open_in t rs (turn ∷ turns) = open_in (after t turn) (open_at (after t turn).stage (after t turn).pending (with_asked turn rs)) turns

-- the requests that are to end after these turns, in the order in which they were asked
abbrev pub open_after : List Turn → List Asked
open_after turns = open_in start [] turns

-- what belongs to the data of a copy: its end, and Syncs before that
abbrev pub is_in_data : Request → Bool
is_in_data requests.Sync = true
is_in_data requests.CopyDone = true
is_in_data r = false

abbrev pub all_in_data : List Asked → Bool
all_in_data [] = true
all_in_data (a ∷ rest) = if is_in_data a.request then all_in_data rest else false

-- a server passes over all of them, after an error or after none
abbrev pub all_passed : Bool → List Asked → Bool
all_passed skipping [] = true
all_passed skipping (a ∷ rest) = if is_passed skipping a.request then all_passed skipping rest else false

abbrev pub is_error : Kind → Bool
is_error kinds.ErrorResponse = true
is_error k = false

-- What ends in a turn, where these requests are to end before it: with an answer's last message the first of them, what belongs to the data of copies in it, and
-- those behind it that the server passes over then: behind an error all but a Sync, else ends of copies. With a request that is asked behind an error, or an end
-- of a copy where there is none, that one alone; and else none.
abbrev pub EndsBy : Turn → List Asked → List Asked → Type 0
EndsBy (Asks a) rs gone = (gone ≡ []) ⊎ ((rs ≡ []) × (gone ≡ a ∷ []))
EndsBy (Hears k (Part n)) rs gone = (gone ≡ []) × (first_name rs ≡ Some n)
EndsBy (Hears k (Last n)) rs gone =
    (first : Asked) × (copied : List Asked) × (passed : List Asked) × (gone ≡ first ∷ copied ++ passed) × (first.name ≡ n)
    × (all_in_data copied ≡ true) × (all_passed (is_error k) passed ≡ true)
EndsBy (Hears k Aside) rs gone = gone ≡ []
EndsBy (Hears k Ended) rs gone = gone ≡ rs

-- names that rise, as those that count
abbrev pub Rises : List ℕ → Type 0
Rises [] = Unit {0}
Rises (n ∷ ns) = ((m : ℕ) → IsAmong m ns → n < m) × Rises ns

-- it belongs to the answer to the request of this name
abbrev pub BelongsTo : ℕ → Event → Type 0
BelongsTo n e = (e ≡ Part n) ⊎ (e ≡ Last n)
