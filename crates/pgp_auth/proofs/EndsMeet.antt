-- Our client and our server, step by step.
use Rattle.pgp_auth.proofs.Common.{◌≡◌, ℕ, ◌<◌, ◌≤◌, Bool, true, List, [], ◌∷◌, ◌++◌, codes, subst, refl, sym, ap, ◌∙◌, arith, inl, inr, IsBytes, base64, Verifier, verifier, Binding, Unsupported, Unrequested, TlsServerEndPoint, IsNonce, gs2_header, named_bare, first_bare, is_nonce_char, Accepts, Signs, Refusal, Meets, Begun, Client, first_text, message_of, Answers, UpdateRefuses, UpdateRefused, Finished, FinishRefuses, FinishRefused, Offer, NotOffered, Declined, Chosen, IsTaken, Serving, Challenge, Server, answer_of, server_first, Opens, Challenges, FirstRefuses, FirstRefused, AcceptsFinal, Shown, Admits, FinalRefuses, FinalRefused, ServerError, append_cancel_left, All-append}
use Rattle.std.proofs.Common.{Some}
use Rattle.pgp_auth.specs.ScramRefusal.{OutOfMemory as RefusedMemory}
use Rattle.pgp_auth.specs.ScramClient.{AwaitsFirst as ClientAwaitsFirst, AwaitsFinal as ClientAwaitsFinal}
use Rattle.pgp_auth.specs.ScramServing.{AwaitsFirst, AwaitsFinal}
use Rattle.pgp_auth.specs.ScramMeeting.{Meeting, Met}
use Rattle.pgp_auth.specs.declared.scram.server_error.ServerError.TheVariants.{OutOfMemory}
use Rattle.pgp_auth.proofs.Grants.{meets_not_refused}
use Rattle.pgp_auth.proofs.Once.{meets_once}
use Rattle.pgp_auth.proofs.BothWays.{never_refused}
use Rattle.pgp_auth.proofs.ServerTexts.{answer_is_first, shows_itself}
use Rattle.pgp_auth.proofs.Steps.{no_name}
use Rattle.pgp_auth.proofs.UserNames.{empty_name}
use Rattle.pgp_auth.proofs.Reading.{heads}

-- ---- one binding is claimed

apart : (a b : ℕ) (l k : List ℕ) → a < b → a ∷ l ≡ b ∷ k → ⊥
apart a b l k lt e =
    let same = heads a b l k e in
    omega arith

one_binding : (o : Offer) (b d : Binding) (n k : List ℕ) → IsTaken o b → IsTaken o d → gs2_header b ++ n ≡ gs2_header d ++ k → (b ≡ d) × (n ≡ k)
one_binding NotOffered Unsupported Unsupported n k s t e = (refl, append_cancel_left (codes "n,,") n k e)
one_binding NotOffered Unsupported Unrequested n k s t e = absurd (apart 110 121 (codes ",," ++ n) (codes ",," ++ k) (omega arith) e)
one_binding NotOffered Unsupported (TlsServerEndPoint y) n k s t e = absurd t
one_binding NotOffered Unrequested Unsupported n k s t e = absurd (apart 110 121 (codes ",," ++ k) (codes ",," ++ n) (omega arith) (sym e))
one_binding NotOffered Unrequested Unrequested n k s t e = (refl, append_cancel_left (codes "y,,") n k e)
one_binding NotOffered Unrequested (TlsServerEndPoint y) n k s t e = absurd t
one_binding NotOffered (TlsServerEndPoint x) d n k s t e = absurd s
one_binding Declined Unsupported Unsupported n k s t e = (refl, append_cancel_left (codes "n,,") n k e)
one_binding Declined Unsupported Unrequested n k s t e = absurd t
one_binding Declined Unsupported (TlsServerEndPoint y) n k s t e = absurd t
one_binding Declined Unrequested d n k s t e = absurd s
one_binding Declined (TlsServerEndPoint x) d n k s t e = absurd s
one_binding (Chosen h) Unsupported d n k s t e = absurd s
one_binding (Chosen h) Unrequested d n k s t e = absurd s
one_binding (Chosen h) (TlsServerEndPoint x) Unsupported n k s t e = absurd t
one_binding (Chosen h) (TlsServerEndPoint x) Unrequested n k s t e = absurd t
one_binding (Chosen h) (TlsServerEndPoint x) (TlsServerEndPoint y) n k s t e =
    (ap TlsServerEndPoint (s ∙ sym t), append_cancel_left (codes "p=tls-server-end-point,,") n k e)

-- ---- the first text

pub message_is : (x : Client) (s : Server) (m : Meeting x s) → message_of x.state ≡ Some (first_text m.begun)
message_is x s m = rw m.client_is refl

refuses_first : (lacks : Type 0) (serving : Serving) (b : Binding) (n : List ℕ) (e : ServerError) → IsTaken serving.offer b → IsNonce n
    → FirstRefuses lacks (AwaitsFirst serving) (gs2_header b ++ first_bare n) e → (e ≡ OutOfMemory) × lacks
refuses_first lacks serving b n e taken nonce (inl memory) = (memory.0, memory.1)
refuses_first lacks serving b n e taken nonce (inr (inl header)) = absurd (header.1 b (first_bare n) taken refl)
refuses_first lacks serving b n e taken nonce (inr (inr bare)) = absurd (bare.2 b [] n taken no_name nonce refl)

pub first_memory : {lacks : Type 0} (x : Client) (s new : Server) (e : ServerError) (m : Meeting x s) (text : List ℕ) → text ≡ first_text m.begun → FirstRefused lacks s text e new → (e ≡ OutOfMemory) × lacks
first_memory {lacks} x s new e m text is r =
    let why : FirstRefuses lacks s (first_text m.begun) e = rw is at r.why in
    refuses_first lacks m.serving m.begun.binding m.begun.nonce e m.taken m.is_nonce (rw m.server_is at why)

pub same_serving : (a b : Serving) → AwaitsFirst a ≡ AwaitsFirst b → a ≡ b
same_serving a b e = cc

pub same_challenge : (a b : Challenge) → AwaitsFinal a ≡ AwaitsFinal b → a ≡ b
same_challenge a b e = cc

same_begun : (a b : Begun) → ClientAwaitsFirst a ≡ ClientAwaitsFirst b → a ≡ b
same_begun a b e = cc

-- the challenge that a server makes of this client's text
abbrev pub challenge_at : Begun → Serving → Challenge
challenge_at b s = record { verifier = s.verifier; is_mock = s.is_mock; binding = b.binding; user = []; nonce = b.nonce; own = s.own }

challenge_eq : (c : Challenge) (v : Verifier) (m : Bool) (b : Binding) (u n o : List ℕ) → c.verifier ≡ v → c.is_mock ≡ m → c.binding ≡ b → c.user ≡ u → c.nonce ≡ n → c.own ≡ o
    → c ≡ record { verifier = v; is_mock = m; binding = b; user = u; nonce = n; own = o }
challenge_eq c v m b u n o p k q t r s = rw (← p, ← k, ← q, ← t, ← r, ← s) refl

pub challenge_is : (x : Client) (s new : Server) (text answer : List ℕ) (m : Meeting x s) → text ≡ first_text m.begun → (h : Challenges s text new answer)
    → h.challenge ≡ challenge_at m.begun m.serving
challenge_is x s new text answer m is h =
    let same : h.serving ≡ m.serving = same_serving h.serving m.serving (sym h.due ∙ m.server_is) in
    let opens : Opens m.serving text h.challenge = rw same at h.opens in
    let c = h.challenge in
    let one = one_binding m.serving.offer c.binding m.begun.binding (named_bare c.user c.nonce) (first_bare m.begun.nonce) opens.taken m.taken (sym opens.text_is ∙ is) in
    let two = empty_name c.user c.nonce m.begun.nonce opens.is_name.spelled one.1 in
    challenge_eq c m.serving.verifier m.serving.is_mock m.begun.binding [] m.begun.nonce m.serving.own opens.verifier_is opens.mock_is one.0 two.0 two.1 opens.own_is

meets_at : (v : Verifier) (password n own salt : List ℕ) (count : ℕ) → v ≡ verifier password salt count → IsNonce n → IsNonce own → IsBytes salt → count ≤ 100000
    → Meets n (server_first (n ++ own) v.salt v.count) (n ++ own) salt count
unfolding verifier
meets_at v password n own salt count is nonce own_is bytes few = rw is (record {
  salt_text = base64 salt;
  more = own;
  text_is = answer_is_first (n ++ own) salt count (All-append (λ c. is_nonce_char c ≡ true) n own nonce.1 own_is.1) bytes (omega arith);
  nonce_is = refl;
  few = few;
  shows = shows_itself salt bytes;
})

abbrev pub whole_nonce : {x : Client} {s : Server} → Meeting x s → List ℕ
whole_nonce m = m.begun.nonce ++ m.serving.own

pub answer_meets : (x : Client) (s new : Server) (text answer : List ℕ) (m : Meeting x s) → text ≡ first_text m.begun → Challenges s text new answer
    → Meets m.begun.nonce answer (m.begun.nonce ++ m.serving.own) m.salt m.count
answer_meets x s new text answer m is h =
    let answer_is : answer ≡ answer_of (challenge_at m.begun m.serving) = h.answer_is ∙ ap answer_of (challenge_is x s new text answer m is h) in
    rw answer_is (meets_at m.serving.verifier m.begun.password m.begun.nonce m.serving.own m.salt m.count m.verifier_is m.is_nonce m.own_is m.salt_is m.few)

-- ---- the client's answer

from_why : (lacks : Type 0) (b : Begun) (f n salt : List ℕ) (count : ℕ) (e : Refusal) (before after : ℕ) → Meets b.nonce f n salt count → UpdateRefuses lacks (ClientAwaitsFirst b) f e before after → (e ≡ RefusedMemory) × lacks
from_why lacks b f n salt count e before after meets (inl cause) = absurd (meets_not_refused b.nonce f n salt count e meets cause.0)
from_why lacks b f n salt count e before after meets (inr memory) = (memory.0, memory.1)

pub update_memory_met : {lacks : Type 0} (x y : Client) (s new : Server) (text f : List ℕ) (e : Refusal) (m : Meeting x s) → text ≡ first_text m.begun → Challenges s text new f
    → UpdateRefused lacks x f e y → (e ≡ RefusedMemory) × lacks
update_memory_met {lacks} x y s new text f e m is h r =
    from_why lacks m.begun f (m.begun.nonce ++ m.serving.own) m.salt m.count e x.hmacs y.hmacs (answer_meets x s new text f m is h) (rw m.client_is at r.why)

verifier_same : (p q s t : List ℕ) (i j : ℕ) → p ≡ q → s ≡ t → i ≡ j → verifier p s i ≡ verifier q t j
verifier_same p q s t i j a b c = rw (a, b, c) refl

-- what the client answers is accepted
pub answer_accepted : (x y : Client) (s new : Server) (text f : List ℕ) (m : Meeting x s) → text ≡ first_text m.begun → (h : Challenges s text new f) → (a : Answers x f y)
    → (verifier a.begun.password a.salt a.count ≡ m.serving.verifier) × (a.begun ≡ m.begun)
answer_accepted x y s new text f m is h a =
    let same : a.begun ≡ m.begun = same_begun a.begun m.begun (sym a.due ∙ m.client_is) in
    let meets : Meets m.begun.nonce f a.nonce a.salt a.count = rw same at a.meets in
    let once = meets_once m.begun.nonce f a.nonce a.salt (m.begun.nonce ++ m.serving.own) m.salt a.count m.count meets (answer_meets x s new text f m is h) in
    (verifier_same a.begun.password m.begun.password a.salt m.salt a.count m.count (ap (λ (b : Begun). b.password) same) once.1 once.2 ∙ sym m.verifier_is, same)

pub final_accepted : (x y : Client) (s new : Server) (text f : List ℕ) (m : Meeting x s) → text ≡ first_text m.begun → Challenges s text new f → (a : Answers x f y)
    → AcceptsFinal (challenge_at m.begun m.serving) a.answered.final
final_accepted x y s new text f m is h a =
    let both = answer_accepted x y s new text f m is h a in
    let answer_is : f ≡ answer_of (challenge_at m.begun m.serving) = h.answer_is ∙ ap answer_of (challenge_is x s new text f m is h) in
    let one : Accepts m.serving.verifier a.begun.binding (first_text a.begun) f a.answered.final = rw both.0 at a.accepts in
    let two : Accepts m.serving.verifier m.begun.binding (first_text m.begun) f a.answered.final = rw both.1 at one in
    subst (λ t. Accepts m.serving.verifier m.begun.binding (first_text m.begun) t a.answered.final) answer_is two

pub answered_state : (x y : Client) (f : List ℕ) (a : Answers x f y) → y.state ≡ ClientAwaitsFinal a.answered
answered_state x y f a = ap (λ (c : Client). c.state) a.new_is

pub answered_message : (x y : Client) (f : List ℕ) (a : Answers x f y) → message_of y.state ≡ Some a.answered.final
answered_message x y f a = rw (answered_state x y f a) refl

new_is : (x : Client) (s new : Server) (text f : List ℕ) (m : Meeting x s) → text ≡ first_text m.begun → (h : Challenges s text new f) → new ≡ AwaitsFinal (challenge_at m.begun m.serving)
new_is x s new text f m is h = h.new_is ∙ ap AwaitsFinal (challenge_is x s new text f m is h)

pub finish_never_refused : (x y : Client) (s new after : Server) (text f last : List ℕ) (e : ServerError) (m : Meeting x s) → text ≡ first_text m.begun → Challenges s text new f
    → (a : Answers x f y) → last ≡ a.answered.final → FinalRefused new last e after → ⊥
finish_never_refused x y s new after text f last e m is h a last_is r =
    let why : FinalRefuses (AwaitsFinal (challenge_at m.begun m.serving)) a.answered.final e = rw (new_is x s new text f m is h, last_is) at r.why in
    why.not_accepted m.not_mock (final_accepted x y s new text f m is h a)

-- ---- the server's signature

pub signature_never_refused : {lacks : Type 0} (x y z : Client) (s new after : Server) (text f last out : List ℕ) (e : Refusal) (m : Meeting x s) → text ≡ first_text m.begun → Challenges s text new f
    → (a : Answers x f y) → Admits new last after out → FinishRefused lacks y out e z → ⊥
signature_never_refused {lacks} x y z s new after text f last out e m is h a d r =
    let both = answer_accepted x y s new text f m is h a in
    let ch : d.challenge ≡ challenge_at m.begun m.serving = same_challenge d.challenge (challenge_at m.begun m.serving) (sym d.due ∙ new_is x s new text f m is h) in
    let answer_is : f ≡ answer_of (challenge_at m.begun m.serving) = h.answer_is ∙ ap answer_of (challenge_is x s new text f m is h) in
    let shown : Shown (challenge_at m.begun m.serving) out = rw ch at d.shown in
    let one : Signs m.serving.verifier m.begun.binding (first_text m.begun) f shown.signature =
    subst (λ t. Signs m.serving.verifier m.begun.binding (first_text m.begun) t shown.signature) (sym answer_is) shown.signs in
    let two : Signs m.serving.verifier a.begun.binding (first_text a.begun) f shown.signature = subst (λ b. Signs m.serving.verifier b.binding (first_text b) f shown.signature) (sym both.1) one in
    let signs : Signs (verifier a.begun.password a.salt a.count) a.begun.binding (first_text a.begun) f shown.signature = subst (λ v. Signs v a.begun.binding (first_text a.begun) f shown.signature) (sym both.0) two in
    let why : FinishRefuses lacks (ClientAwaitsFinal a.answered) (codes "v=" ++ base64 shown.signature) e y.hmacs z.hmacs = rw (answered_state x y f a, shown.answer_is) at r.why in
    never_refused lacks x y f shown.signature a signs e y.hmacs z.hmacs why

pub met : (y z : Client) (new after : Server) (last out : List ℕ) → Admits new last after out → Finished y out z → Met z after
met y z new after last out d f = record { challenge = d.challenge; final = last; accepts = d.accepts; client_over = f.over; server_over = d.over }

some_is : (a b : List ℕ) → Some a ≡ Some b → a ≡ b
some_is a b e = cc

pub text_is : (x : Client) (s : Server) (m : Meeting x s) (t : List ℕ) → Some t ≡ message_of x.state → t ≡ first_text m.begun
text_is x s m t e = some_is t (first_text m.begun) (e ∙ message_is x s m)

pub last_is : (x y : Client) (f : List ℕ) (a : Answers x f y) (t : List ℕ) → Some t ≡ message_of y.state → t ≡ a.answered.final
last_is x y f a t e = some_is t a.answered.final (e ∙ answered_message x y f a)

pub same_answers : (x y : Client) (f g : List ℕ) → f ≡ g → Answers x f y → Answers x g y
same_answers x y f g e a = subst (λ t. Answers x t y) e a
