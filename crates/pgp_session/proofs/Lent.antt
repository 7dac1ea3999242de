-- What is known of a session that a pooler may lend.
use Rattle.pgp_session.proofs.Common.{◌≡◌, ◌⊎◌, ℕ, Bool, List, [], ◌∷◌, ◌++◌, Option, None, Ok, refl, sym, ap, ◌∙◌, ◌||◌, false, true, kind_of, is_idle, taken, Talk, Event, Aside, Ended, ClientMessage, Message, newer, status, Kind}
use Rattle.pgp_session.specs.Pooler.{AndReceived, AndResult, AndSent, CanBeLent, IsQuiet, Nothing, Saw, Shown, last_status, leaves, left_after, waits, waits_after}

waits_more : (before : Bool) (sent : List ClientMessage) (m : ClientMessage) → waits_after before (sent ++ m ∷ []) ≡ waits (waits_after before sent) m
waits_more before [] m = refl
waits_more before (x ∷ sent) m = waits_more (waits before x) sent m

status_more : (before : Option ℕ) (received : List Message) (m : Message) → last_status before (received ++ m ∷ []) ≡ newer (last_status before received) (status m)
status_more before [] m = refl
status_more before (x ∷ received) m = status_more (newer before (status x)) received m

left_more : (before : Bool) (sent : List ClientMessage) (m : ClientMessage) → left_after before (sent ++ m ∷ []) ≡ (left_after before sent || leaves m)
left_more before [] m = refl
left_more before (x ∷ sent) m = left_more (before || leaves x) sent m

unfinished_is : {sent : List ClientMessage} {received : List Message} {s : Shown} → Saw sent received s → s.unfinished ≡ waits_after false sent
unfinished_is Nothing = refl
unfinished_is (AndSent {sent} m saw) = ap (λ (b : Bool). waits b m) (unfinished_is saw) ∙ sym (waits_more false sent m)
unfinished_is (AndReceived m e t is saw) = unfinished_is saw
unfinished_is (AndResult e t is saw) = unfinished_is saw

left_is : {sent : List ClientMessage} {received : List Message} {s : Shown} → Saw sent received s → s.left ≡ left_after false sent
left_is Nothing = refl
left_is (AndSent {sent} m saw) = ap (λ (b : Bool). b || leaves m) (left_is saw) ∙ sym (left_more false sent m)
left_is (AndReceived m e t is saw) = left_is saw
left_is (AndResult e t is saw) = left_is saw

status_is : {sent : List ClientMessage} {received : List Message} {s : Shown} → Saw sent received s → s.status ≡ last_status None received
status_is Nothing = refl
status_is (AndSent m saw) = status_is saw
status_is (AndResult e t is saw) = status_is saw
status_is (AndReceived {sent} {received} m e t is saw) = ap (λ (o : Option ℕ). newer o (status m)) (status_is saw) ∙ sym (status_more None received m)

pub lent : ((idle next : Talk) (kind : Kind) (event : Event) → is_idle idle ≡ true → taken idle kind ≡ Ok (event, next) → (event ≡ Aside) ⊎ (event ≡ Ended))
    → (sent : List ClientMessage) (received : List Message) (s : Shown) (client server : List ℕ) → Saw sent received s → IsQuiet s client server → CanBeLent sent received s
lent waits sent received s client server saw quiet = record {
  finished = sym (unfinished_is saw) ∙ quiet.finished;
  stays = sym (left_is saw) ∙ quiet.stays;
  idle = sym (status_is saw) ∙ quiet.idle;
  unasked = λ m e t is. waits s.talk t (kind_of m) e quiet.answered is;
}
