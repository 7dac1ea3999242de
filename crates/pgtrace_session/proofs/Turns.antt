-- What is asked and heard in turn in a listing.
use Rattle.pgtrace_session.proofs.Common.{◌≡◌, ◌≢◌, ℕ, Bool, true, false, List, [], ◌∷◌, ◌++◌, ◌+◌, length, Option, Some, None, Result, Ok, Err, refl, sym, ap, subst, ◌∙◌, append_assoc, append-nil, place_behind, View, Sender, Marking, Noted, Role, Told, Known, ListsChunks, ListsFrames, NoChunkListed, NoLines, OneChunkListed, OneLine, begins, counts, half_in, note, noted_in, now_at, side_in, with_numbers, with_side, with_types, mark, Chunk, Numbers, at_time, first_numbers, placed, role_in, tell, ClientMessage, said_in, sent_in, places, State, false≢true}
use Rattle.pgp_client.proofs.Exact.{turns_are_sent}
use Rattle.pgp_client.proofs.Timely.{sent_in_turns, true_in_turns}
use Rattle.pgp_client.specs.Taking.{asked, taken, taken_as, observed, observed_at, moved, event_of, is_aside, is_end, ready}
use Rattle.pgp_client.specs.Talk.{Talk}
use Rattle.pgp_client.specs.Telling.{Turn, Asks, Hears, Follows, start}
use Rattle.pgp_client.specs.declared.request.Asked.{Asked}
use Rattle.pgp_client.specs.declared.event.Event.{Event}
use Rattle.pgp_client.specs.declared.event.Event.TheVariants.{Ended}
use Rattle.pgp_client.specs.declared.event.Refusal.{Refusal}
use Rattle.pgp_client.specs.declared.kind.Kind.{Kind}
use Rattle.pgp_client.specs.declared.stage.Stage.{Stage}
use Rattle.pgp_client.specs.declared.stage.Stage.TheVariants.{Idle, Over, Skipping}
use Rattle.pgtrace_session.specs.declared.expectation.Noted.TheVariants as noted
use Rattle.pgtrace_session.specs.declared.role.Role.TheVariants as role
use Rattle.pgtrace_session.specs.Conversation.{Talk as Listed}
use Rattle.pgtrace_session.specs.Turns.{AreTrue, hears, turn_of, turns_at, turns_in, turns_of}

-- each message of these turns is taken, this is reported of it, and this is the dialogue after them
abbrev pub FollowsTo : Talk → List Turn → Talk → Type 0
FollowsTo t [] to = t ≡ to
FollowsTo t (Asks a ∷ turns) to = FollowsTo (asked t a) turns to
FollowsTo t (Hears k e ∷ turns) to = (next : Talk) × (taken t k ≡ Ok (e, next)) × FollowsTo next turns to

both_follow : (t mid to : Talk) (xs ys : List Turn) → FollowsTo t xs mid → FollowsTo mid ys to → FollowsTo t (xs ++ ys) to
both_follow t mid to [] ys f g = subst (λ s. FollowsTo s ys to) (sym f) g
both_follow t mid to (Asks a ∷ xs) ys f g = both_follow (asked t a) mid to xs ys f g
both_follow t mid to (Hears k e ∷ xs) ys f g = (f.0, f.1, both_follow f.0 mid to xs ys f.2 g)

-- ---- a frame

abbrev Reached : Option Talk → List Turn → Type 0
Reached None turns = Unit {0}
Reached (Some dialogue) turns = FollowsTo start turns dialogue

-- the turns so far lead to the dialogue, as long as there is one
abbrev pub Come : Option Numbers → List Turn → Type 0
Come None turns = Unit {0}
Come (Some n) turns = Reached n.dialogue turns

pub none_came : (numbered summed folds : Bool) → Come (first_numbers numbered summed folds) []
none_came true summed folds = refl
none_came false summed folds = tt

pub time_came : (micros : ℕ) (n : Option Numbers) (turns : List Turn) → Come n turns → Come (at_time micros n) turns
time_came micros None turns c = tt
time_came micros (Some n) turns c = c

heard : (kind : Kind) (d : Talk) (r : Result (Event × Talk) Refusal) (turns : List Turn) → taken d kind ≡ r → FollowsTo start turns d → Reached (placed r).1 (turns ++ hears kind (placed r).0)
heard kind d (Ok x) turns is f = both_follow start d x.1 turns (Hears kind x.0 ∷ []) f (x.1, is, refl)
heard kind d (Err e) turns is f = tt

told_more : (sent : List ℕ) (now : ℕ) (summary : Option State) (o : Option Talk) (turns : List Turn) (r : Role) → Reached o turns
    → Reached (tell r (record { dialogue = o; sent = sent; now = now; summary = summary })).1.dialogue (turns ++ turn_of r (record { dialogue = o; sent = sent; now = now; summary = summary }))
told_more sent now summary None turns (role.Request q) c = tt
told_more sent now summary (Some d) turns (role.Request q) c = both_follow start d (asked d (record { request = q; name = length sent + 1 })) turns (Asks (record { request = q; name = length sent + 1 }) ∷ []) c refl
told_more sent now summary None turns (role.Message kind) c = tt
told_more sent now summary (Some d) turns (role.Message kind) c = heard kind d (taken d kind) turns refl c
told_more sent now summary o turns role.Fault c = tt
told_more sent now summary None turns role.Other c = tt
told_more sent now summary (Some d) turns role.Other c = subst (λ l. FollowsTo start l d) (sym (append-nil turns)) c

-- a summary leaves the dialogue as it is
pub frame_came : (r : Role) (m : Option ClientMessage) (here : Option Numbers) (told : Told) (numbers : Option Numbers) (turns : List Turn) → places r m here ≡ (told, numbers) → Come here turns → Come numbers (turns ++ turns_at r here)
frame_came r m None told numbers turns e c = subst (λ n. Come n (turns ++ [])) (ap (λ (x : Told × Option Numbers). x.1) e) tt
frame_came r m (Some n) told numbers turns e c = subst (λ o. Come o (turns ++ turn_of r n)) (ap (λ (x : Told × Option Numbers). x.1) e) (told_more n.sent n.now n.summary n.dialogue turns r c)

-- ---- the end

event_in : Result (Event × Talk) Refusal → Event → Event
event_in (Ok x) other = x.0
event_in (Err e) other = other

next_in : Result (Event × Talk) Refusal → Talk → Talk
next_in (Ok x) other = x.1
next_in (Err e) other = other

is_over : Stage → Bool
is_over Over = true
is_over s = false

over_event : (s : Stage) (n : ℕ) → is_end (event_of s n) ≡ is_over s
unfolding is_over
over_event Idle n = refl
over_event Skipping n = refl
over_event Over n = refl
over_event s n = refl

over_is : (s : Stage) → is_over s ≡ true → s ≡ Over
unfolding is_over
over_is Over e = refl
over_is s e = absurd (false≢true e)

-- after an error that ends the session nothing else is taken
over_kept : (t : Talk) (k : Kind) (e : Event) (next : Talk) (aside : Bool) → t.stage ≡ Over → taken_as aside t k ≡ Ok (e, next) → next.stage ≡ Over
unfolding next_in
over_kept t k e next true over is = ap (λ (x : Talk). x.stage) (sym (ap (λ r. next_in r t) is)) ∙ over
over_kept t k e next false over is = absurd (refused t.name t.pending k e next (subst (λ s. observed (ready (record { stage = s; name = t.name; pending = t.pending })) k ≡ Ok (e, next)) over is))
  where
    refused : (name : ℕ) (pending : List Asked) (k : Kind) (e : Event) (next : Talk) → observed (ready (record { stage = Over; name = name; pending = pending })) k ≡ Ok (e, next) → ⊥
    refused name pending k e next is = absurd cc

moved_ends : (n : ℕ) (r : Result (Stage × List Asked) Refusal) (next : Talk) → moved n r ≡ Ok (Ended, next) → next.stage ≡ Over
unfolding next_in event_in
moved_ends n (Ok x) next is = ap (λ (t : Talk). t.stage) (sym (ap (λ r. next_in r next) is)) ∙ over_is x.0 (sym (over_event x.0 n) ∙ ap (λ r. is_end (event_in r Ended)) is)
moved_ends n (Err e) next is = absurd cc

taken_ends : (t : Talk) (k : Kind) (next : Talk) (aside : Bool) → taken_as aside t k ≡ Ok (Ended, next) → next.stage ≡ Over
unfolding event_in
taken_ends t k next true is = absurd (false≢true (ap (λ r. is_end (event_in r Ended)) is))
taken_ends t k next false is = moved_ends (ready t).name (observed_at (ready t).stage (ready t).pending k) next is

ended : (t : Talk) (k : Kind) (next : Talk) → taken t k ≡ Ok (Ended, next) → next.stage ≡ Over
ended t k next is = taken_ends t k next (is_aside k) is

stays_over : (t to : Talk) (turns : List Turn) → t.stage ≡ Over → FollowsTo t turns to → to.stage ≡ Over
stays_over t to [] over f = ap (λ (x : Talk). x.stage) (sym f) ∙ over
stays_over t to (Asks a ∷ turns) over f = stays_over (asked t a) to turns over f
stays_over t to (Hears k e ∷ turns) over f = stays_over f.0 to turns (over_kept t k e f.0 (is_aside k) over f.1) f.2

pub goes_on : (t to : Talk) (turns : List Turn) → to.stage ≢ Over → FollowsTo t turns to → Follows t turns
goes_on t to [] some f = tt
goes_on t to (Asks a ∷ turns) some f = goes_on (asked t a) to turns some f
goes_on t to (Hears k e ∷ turns) some f =
    (f.0, f.1, λ is. some (stays_over f.0 to turns (ended t k f.0 (f.1 ∙ ap (λ x. Ok (x, f.0)) is)) f.2), goes_on f.0 to turns some f.2)

-- ---- a listing

pub note_kept : (n : Noted) (known : Known) → (note n known).numbers ≡ known.numbers
note_kept (noted.Asks kind) known = refl
note_kept n known = refl

frames_come : (view : View) (m : List ℕ) (who : Sender) (place : ℕ) (from : Known) (bytes lines : List ℕ) (to : Known) (l : ListsFrames view m who place from bytes lines to) (turns : List Turn)
    → Come from.numbers turns → Come to.numbers (turns ++ turns_of view m who place from bytes lines to l)
frames_come view m who place from [] [] _ NoLines turns c = subst (Come from.numbers) (sym (append-nil turns)) c
frames_come view m who place from _ _ to (OneLine {bytes = bytes} {lines = lines} {here = here} frame text before one) turns c =
    let at = place_behind (place + length bytes) in
    let r = role_in view.style at (side_in who here) frame one.line one.after one.reported in
    let noting = noted_in view.style at (side_in who here) frame one.line one.after one.reported in
    let front = turns_of view m who place from bytes lines here before in
    let said = said_in view.style at (side_in who here) frame one.line one.after one.reported in
    let came = frame_came r (sent_in said) here.numbers one.told one.numbers (turns ++ front) one.placed (frames_come view m who place from bytes lines here before turns c) in
    let same : to.numbers ≡ one.numbers = ap (λ (k : Known). k.numbers) one.behind ∙ note_kept noting (with_types one.types (with_numbers one.numbers (with_side who here one.after))) in
    subst (Come to.numbers) (append_assoc turns front (turns_at r here.numbers))
    (subst (λ n. Come n ((turns ++ front) ++ turns_at r here.numbers)) (sym same) came)

chunks_come : (view : View) (marking : Marking) (chunks : List Chunk) (lines : List ℕ) (to : Listed) (l : ListsChunks view (begins marking) chunks lines to) → Come to.known.numbers (turns_in view (begins marking) chunks lines to l)
chunks_come view marking [] [] _ NoChunkListed = none_came (counts marking) marking.summed marking.folded
chunks_come view marking _ _ to (OneChunkListed {chunks = chunks} {lines = lines} {here = here} chunk text before one) =
    let turns = turns_in view (begins marking) chunks lines here before in
    frames_come view (mark view.style.form chunk.sender one.time) chunk.sender (half_in chunk.sender here).passed (now_at chunk.micros here.known) one.front text to.known one.each turns
    (time_came chunk.micros here.known.numbers turns (chunks_come view marking chunks lines here before))

pub turns_are_true : (view : View) (marking : Marking) (chunks : List Chunk) (lines : List ℕ) (talk : Listed) (numbers : Numbers) (dialogue : Talk) (l : ListsChunks view (begins marking) chunks lines talk)
    → talk.known.numbers ≡ Some numbers → numbers.dialogue ≡ Some dialogue → dialogue.stage ≢ Over → AreTrue (turns_in view (begins marking) chunks lines talk l)
turns_are_true view marking chunks lines talk numbers dialogue l n d some =
    let turns = turns_in view (begins marking) chunks lines talk l in
    let come : Come (Some numbers) turns = subst (λ x. Come x turns) n (chunks_come view marking chunks lines talk l) in
    let reached : Reached (Some dialogue) turns = subst (λ x. Reached x turns) d come in
    let follows = goes_on start dialogue turns some reached in
    record { answers = turns_are_sent turns follows; belong = sent_in_turns turns follows; alone = λ truth. true_in_turns turns truth follows }
