-- What is known of a session of a server stays known with each step.
use Rattle.pgp_session.proofs.Common.{◌≡◌, ℕ, List, Some, Result, Ok, Err, [], ◌∷◌, ◌++◌, refl, sym, subst, inl, inr, append_assoc, append-nil, Held, Error, ClientMessage, PasswordMessage, SaslInitialResponse, SaslResponse, Terminate, Startup, CancelRequest, SslRequest, GssEncRequest, Due, Outcome, StepsAll, IsAsked, Proves, HasShown, IsUnderWay, IsChallenged, IsAdmitted, ReceivedIn, due, at_opening, at_password, at_first, at_final, at_open, phase_after, password_message, first_message, final_message}
use Rattle.pgp_session.specs.Serving as spec
use Rattle.pgp_session.specs.Serving.{Comes, Steps, Knows, NoneWanted, OneReceived, OtherReceived}
use Rattle.pgp_session.specs.declared.serving.Denial.TheVariants.{WrongPassword, Violation}
use Rattle.pgp_session.specs.declared.serving.Method.{Method}
use Rattle.pgp_session.specs.declared.serving.Method.TheVariants as methods
use Rattle.pgp_session.specs.declared.serving.Serving.{Serving}
use Rattle.pgp_session.specs.declared.serving.ServingEvent.{ServingEvent}
use Rattle.pgp_session.specs.declared.serving.ServingPhase.{ServingPhase}
use Rattle.pgp_session.specs.declared.serving.ServingPhase.TheVariants.{Opening, Named, AwaitsPassword, AwaitsFirst, AwaitsFinal, Open, Over}

-- which message in which phase is this
IsDue : ClientMessage → ServingPhase → Due → Type 0
IsDue m p (spec.Text text) = (m ≡ password_message text) × (p ≡ AwaitsPassword)
IsDue m p (spec.First mechanism text) = (m ≡ SaslInitialResponse mechanism (Some text)) × (p ≡ AwaitsFirst)
IsDue m p (spec.Final text) = (m ≡ final_message text) × (p ≡ AwaitsFinal)
IsDue m p spec.Asks = p ≡ Open
IsDue m p d = Unit {0}

opening_due : (m : ClientMessage) → IsDue m Opening (at_opening m)
unfolding IsDue
opening_due SslRequest = tt
opening_due (CancelRequest process_id secret_key) = tt
opening_due GssEncRequest = tt
opening_due (Startup minor parameters) = tt
opening_due m = tt

password_due : (m : ClientMessage) → IsDue m AwaitsPassword (at_password m)
unfolding IsDue
password_due (PasswordMessage text) = (refl, refl)
password_due m = tt

first_due : (m : ClientMessage) → IsDue m AwaitsFirst (at_first m)
unfolding IsDue
first_due (SaslInitialResponse mechanism (Some text)) = (refl, refl)
first_due m = tt

final_due : (m : ClientMessage) → IsDue m AwaitsFinal (at_final m)
unfolding IsDue
final_due (SaslResponse text) = (refl, refl)
final_due m = tt

open_due : (m : ClientMessage) → IsDue m Open (at_open m)
unfolding IsDue
open_due Terminate = tt
open_due (PasswordMessage text) = tt
open_due (SaslInitialResponse mechanism response) = tt
open_due (SaslResponse text) = tt
open_due (Startup minor parameters) = tt
open_due (CancelRequest process_id secret_key) = tt
open_due SslRequest = tt
open_due GssEncRequest = tt
open_due m = refl

is_due : (p : ServingPhase) (m : ClientMessage) → IsDue m p (due p m)
unfolding IsDue
is_due Opening m = opening_due m
is_due Named m = tt
is_due AwaitsPassword m = password_due m
is_due AwaitsFirst m = first_due m
is_due AwaitsFinal m = final_due m
is_due Open m = open_due m
is_due Over m = tt

one_more : {wanted received : List ClientMessage} (m x : ClientMessage) → m ≡ x → ReceivedIn wanted received → ReceivedIn (wanted ++ (x ∷ [])) (received ++ (m ∷ []))
one_more {wanted} {received} m x e a = subst (λ (y : ClientMessage). ReceivedIn (wanted ++ (y ∷ [])) (received ++ (m ∷ []))) e (OneReceived m a)

module _ {A : Type 0} (received : List ClientMessage) (m : ClientMessage) where
  -- what was shown stays so after another message
  longer : (start : Method A) → HasShown start received → HasShown start (received ++ (m ∷ []))
  longer methods.Nothing k = tt
  longer (methods.Password stored) k = (k.0, OtherReceived m k.1, k.2)
  longer (methods.Md5 salt stored) k = (k.0, OtherReceived m k.1, k.2)
  longer (methods.Exchange server) k = (k.0, k.1, k.2, k.3, k.4, k.5, OtherReceived m k.6, k.7, k.8)

  -- the text that was asked for came
  shown_text : (start : Method A) (text : List ℕ) → m ≡ password_message text → Proves start text → HasShown start (received ++ (m ∷ []))
  shown_text methods.Nothing text e k = tt
  shown_text (methods.Password stored) text e k = (text, one_more m (password_message text) e NoneWanted, k)
  shown_text (methods.Md5 salt stored) text e k = (text, one_more m (password_message text) e NoneWanted, k)
  shown_text (methods.Exchange server) text e k = absurd k

  -- the exchange's first text came
  under_way : (start new : Method A) (text answer : List ℕ) → m ≡ first_message text → IsChallenged start text new answer → IsUnderWay start (received ++ (m ∷ [])) new
  under_way (methods.Exchange server) (methods.Exchange new) text answer e k = (text, answer, one_more m (first_message text) e NoneWanted, k)
  under_way start new text answer e k = absurd k

  -- and its final text
  shown_proof : (start now new : Method A) (text answer : List ℕ) → m ≡ final_message text → IsUnderWay start received now → IsAdmitted now text new answer → HasShown start (received ++ (m ∷ []))
  shown_proof (methods.Exchange server) (methods.Exchange old) (methods.Exchange new) text answer e had k =
      (old, new, had.0, text, had.1, answer, one_more m (final_message text) e had.2, had.3, k)
  shown_proof (methods.Exchange server) (methods.Exchange old) new text answer e had k = absurd k
  shown_proof start now new text answer e had k = absurd had

  -- what was known in the phase that the message is for
  at : (start old : Method A) (p q : ServingPhase) → p ≡ q → Knows start received p old → Knows start received q old
  at start old p q e k = subst (λ (r : ServingPhase). Knows start received r old) e k

  on : (start : Method A) (p : ServingPhase) (d : Due) (old : Method A) (o : Outcome) (new : Method A) → IsDue m p d → Comes d old o new → Knows start received p old → Knows start (received ++ (m ∷ [])) (phase_after o) new
  unfolding IsDue
  on start p spec.Idle old spec.Ignored new i w k = tt
  on start p spec.Encrypts old spec.Unencrypted new i w k = tt
  on start p spec.Cancels old spec.Cancelled new i w k = tt
  on start p spec.Starts old spec.Begun new i w k = tt
  on start p spec.Asks old spec.Requested new i w k = longer start (at start old p Open i k)
  on start p spec.Ends old spec.Ended new i w k = tt
  on start p spec.Misplaced old (spec.Denied Violation) new i w k = tt
  on start p (spec.Text text) old spec.Welcome new i w k =
      shown_text start text i.0 (subst (λ (x : Method A). Proves x text) (at start old p AwaitsPassword i.1 k) w.0)
  on start p (spec.Text text) old (spec.Denied WrongPassword) new i w k = tt
  on start p (spec.First mechanism text) old (spec.Challenge answer) new i w k =
      let said : m ≡ first_message text = subst (λ (x : List ℕ). m ≡ SaslInitialResponse x (Some text)) w.0 i.0 in
      under_way start new text answer said (subst (λ (x : Method A). IsChallenged x text new answer) (at start old p AwaitsFirst i.1 k) w.1)
  on start p (spec.First mechanism text) old (spec.Denied Violation) new i w k = tt
  on start p (spec.Final text) old (spec.Signed answer) new i w k = shown_proof start old new text answer i.0 (at start old p AwaitsFinal i.1 k) w
  on start p (spec.Final text) old (spec.Denied WrongPassword) new i w k = tt
  on start p d old o new i w k = absurd w

module _ {A K : Type 0} (memory : Type 0) (lacks : Held K → ℕ → Type 0) (start : Method A) (received : List ClientMessage) (m : ClientMessage) (old new : Serving A) (before behind : Held K) where
  pub kept_known : (r : Result ServingEvent Error) → Steps memory lacks m old new before behind r → Knows start received old.phase old.method → Knows start (received ++ (m ∷ [])) new.phase new.method
  kept_known (Ok event) w k =
      subst (λ (p : ServingPhase). Knows start (received ++ (m ∷ [])) p new.method) (sym w.3)
      (on received m start old.phase (due old.phase m) old.method w.0 new.method (is_due old.phase m) w.1 k)
  kept_known (Err e) w k = subst (λ (p : ServingPhase). Knows start (received ++ (m ∷ [])) p new.method) (sym w.0) tt

module _ {A K : Type 0} (memory : Type 0) (lacks : Held K → ℕ → Type 0) (start : Method A) where
  -- over steps one after the other
  all_known : (received sent : List ClientMessage) (old new : Serving A) → Knows start received old.phase old.method → StepsAll memory lacks sent old new → Knows start (received ++ sent) new.phase new.method
  all_known received [] old new k w =
      let kept : Knows start received new.phase new.method = subst (λ (s : Serving A). Knows start received s.phase s.method) (sym w) k in
      rw (append-nil received) kept
  all_known received (m ∷ ms) old new k w =
      let next : Knows start (received ++ (m ∷ [])) w.0.phase w.0.method = kept_known memory lacks start received m old w.0 w.1 w.2 w.3 w.4 k in
      rw (← append_assoc received (m ∷ []) ms) (all_known (received ++ (m ∷ [])) ms w.0 new next w.5)

  asked_known : (asked : Serving A) → IsAsked start asked → Knows start [] asked.phase asked.method
  asked_known asked (same, inl e) = rw e same
  asked_known asked (same, inr e) = rw e same

  pub shown_at_last : (sent : List ClientMessage) (asked now : Serving A) → IsAsked start asked → StepsAll memory lacks sent asked now → now.phase ≡ Open → HasShown start sent
  shown_at_last sent asked now i w e =
      subst (λ (p : ServingPhase). Knows start sent p now.method) e (all_known [] sent asked now (asked_known asked i) w)
