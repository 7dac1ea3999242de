-- Messages that differ in their secrets alone are the same to what doesn't look at these.
use Rattle.pgtrace_session.proofs.Common.{◌≡◌, ℕ, List, get_or, Result, Ok, Err, Some, refl, ap, ◌∙◌, kind_of, request_of, request_of_tag, Message, Error, ClientMessage, ClientError, AlikeAnswers, AlikeResults, asks, noted_by, requests, asked_by, heard_as, kind_by, Option, None, Numbers, Role, Told, State, places, runs, sent_in, summed_so, takes_note, tell, with_summary, Said, heard_alike, results_alike, sent_alike}
use Rattle.pgtrace_session.specs.declared.role.Role.TheVariants as role
use Rattle.pgtrace_session.specs.declared.placement.Told.TheVariants.{Number, Answer}
use Rattle.pgtrace_session.proofs.TypedAlike.{AlikeSaid, said_alike}

-- ---- what they are to the requests, and what they say of messages to come

pub server_roles : (t u : ℕ) (r s : Result Message Error) → t ≡ u → AlikeResults r s → heard_as (kind_by t r) ≡ heard_as (kind_by u s)
server_roles t u r s e alike =
    ap (λ k. heard_as (kind_by k r)) e
    ∙ results_alike (λ r s. heard_as (kind_by u r) ≡ heard_as (kind_by u s)) (heard_alike (λ x y. heard_as (Some (kind_of x)) ≡ heard_as (Some (kind_of y))) (λ m. refl) (λ a b e. refl) (λ a b e. refl) (λ a b e. refl) (λ a b e. refl) (λ a b e. refl)) (λ e. refl) r s alike

pub client_roles : (frame other : List ℕ) (r s : Result ClientMessage ClientError) → ((e : ClientError) → r ≡ Err e → (get_or frame 0 0 ≡ get_or other 0 0) × (get_or frame 5 0 ≡ get_or other 5 0)) → AlikeAnswers r s → asked_by frame r ≡ asked_by other s
client_roles frame other (Ok x) (Ok y) same e = sent_alike (λ x y. request_of x ≡ request_of y) (λ m. refl) (λ a b e. refl) (λ m a b e. refl) (λ a b e. refl) (λ p a b e. refl) x y e
client_roles frame other (Err d) (Err f) same e = ap (λ t. request_of_tag t (get_or frame 5 0)) (same d refl).0 ∙ ap (request_of_tag (get_or other 0 0)) (same d refl).1
client_roles frame other (Ok x) (Err f) same e = absurd e
client_roles frame other (Err d) (Ok y) same e = absurd e

-- what they run
note_alike : (told : Told) (r : Role) (s : State) (x y : Said) → AlikeSaid x y → takes_note told r (sent_in x) s ≡ takes_note told r (sent_in y) s
note_alike (Number n) r s x y alike =
    said_alike (λ x y. takes_note (Number n) r (sent_in x) s ≡ takes_note (Number n) r (sent_in y) s) (λ m k e. refl) (sent_alike (λ x y. runs n x s ≡ runs n y s) (λ m. refl) (λ a b e. refl) (λ m a b e. refl) (λ a b e. refl) (λ p a b e. refl)) (λ e. refl) (λ e. refl) refl x y alike
note_alike (Answer n sent now) (role.Message kind) s x y alike = refl
note_alike told r s x y alike = refl

so_alike : (told : Told) (r : Role) (o : Option State) (x y : Said) → AlikeSaid x y → summed_so told r (sent_in x) o ≡ summed_so told r (sent_in y) o
so_alike told r None x y alike = refl
so_alike told r (Some s) x y alike = ap (λ t. Some t) (note_alike told r s x y alike)

pub places_alike : (r : Role) (x y : Said) → AlikeSaid x y → (n : Option Numbers) → places r (sent_in x) n ≡ places r (sent_in y) n
places_alike r x y alike None = refl
places_alike r x y alike (Some n) = ap (λ o. ((tell r n).0, Some (with_summary o (tell r n).1))) (so_alike (tell r n).0 r (tell r n).1.summary x y alike)

pub notes_alike : (x y : Said) → AlikeSaid x y → noted_by x ≡ noted_by y
notes_alike x y alike =
    said_alike (λ x y. noted_by x ≡ noted_by y) (heard_alike (λ x y. asks x ≡ asks y) (λ m. refl) (λ a b e. refl) (λ a b e. refl) (λ a b e. refl) (λ a b e. refl) (λ a b e. refl))
    (sent_alike (λ x y. requests x ≡ requests y) (λ m. refl) (λ a b e. refl) (λ m a b e. refl) (λ a b e. refl) (λ p a b e. refl)) (λ e. refl) (λ e. refl) refl x y alike
