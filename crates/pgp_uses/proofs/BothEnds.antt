-- A client's core and a server's core, turn by turn.
use Rattle.pgp_login.specs.Exchange.{Seen, begun_of, seen_client}
use Rattle.pgp_login.specs.Login.{begun_in}
use Rattle.pgp_uses.proofs.Common.{◌≡◌, ℕ, List, [], ◌∷◌, ◌++◌, length, Some, None, Result, Ok, Err, refl, sym, ap, subst, ◌∙◌, arith, inl, inr, false, append_assoc, Contains, ◌⊎◌, ◌≢◌, encode_utf8, AllByRecursion, append-nil, Wants, WantsMemory, Held, ◌⊕◌, MarkedItems, HasNoZero, IsBytes, int32, Error, Client, Answers, message_of, Meeting, Server, Challenges, Admits, first_memory, finish_never_refused, ClientMessage, SaslInitialResponse, joined, Message, tag_of, TextSpelled, TextRefused, Frames, TakesFrame, IsInRange, IsMechanism, IsReply, names_of, AreRead, Facing, IsServersWant, initial, is_bound, Begun, Comes, Outcome, Challenge, Denied, Signed, IsAdmitted, IsChallenged, IsNoFinal, IsNoFirst, admission, cause_of, challenge, due, final_message, first_message, scram, scram_offer, signature, spelled, Serving, ServingPhase, Lists, codes}
use Rattle.std.specs.Str.{IsUtf8}
use Rattle.pgp_auth.specs.ScramClient.{first_text as text_of}
use Rattle.pgp_auth.specs.ScramServing as server
use Rattle.pgp_auth.specs.Verifier.{verifier}
use Rattle.std.specs.Prelude.{Bool, Option}
use Rattle.pgp_base.specs.OneList.{HasOneMarkedList}
use Rattle.pgp_login.specs.Exchange.{mechanism_by}
use Rattle.pgp_frontend_read.proofs.Items.{bytes_behind}
use Rattle.pgp_frontend_read.proofs.Steps.{frame_payload}
use Rattle.pgp_message_write.specs.Reply.{bytes_of, cause, parts}
use Rattle.pgp_message.proofs.Mechanisms.{only_it}
use Rattle.pgp_session.specs.Serving as serving
use Rattle.pgp_session.specs.declared.serving.Denial.TheVariants.{WrongPassword, Violation}
use Rattle.pgp_session.specs.declared.serving.Method.{Method}
use Rattle.pgp_session.specs.declared.serving.Method.TheVariants as methods
use Rattle.pgp_session.specs.declared.serving.ServingEvent.{ServingEvent}
use Rattle.pgp_session.specs.declared.serving.ServingEvent.TheVariants.{Challenged, LoggedIn}
use Rattle.pgp_session.specs.declared.serving.ServingPhase.TheVariants.{AwaitsFirst, AwaitsFinal, Open}

-- ---- who faces whom

abbrev pub server_of : {A : Type 0} {x : Client} {s : Serving A} → Facing x s → Server
server_of f = server.AwaitsFirst (record { verifier = verifier f.password f.salt f.count; is_mock = false; offer = f.offer; own = f.own })

pub meeting_of : {A : Type 0} (x : Client) (s : Serving A) (f : Facing x s) → Meeting x (server_of f)
meeting_of x s f = record {
  begun = record { password = f.password; binding = f.binding; nonce = f.nonce };
  serving = record { verifier = verifier f.password f.salt f.count; is_mock = false; offer = f.offer; own = f.own };
  salt = f.salt;
  count = f.count;
  client_is = f.exchange_is;
  server_is = refl;
  is_nonce = f.is_nonce;
  own_is = f.own_is;
  taken = f.taken;
  not_mock = refl;
  verifier_is = refl;
  salt_is = f.salt_is;
  few = f.few;
}

pub count_met : {A : Type 0} (x : Client) (s : Serving A) (f : Facing x s) → (meeting_of x s f).count ≡ f.count
unfolding meeting_of
count_met x s f = refl

-- a connection that admits the exchange begins with what the meeting has
pub admits_met : {A : Type 0} (x : Client) (s : Serving A) (f : Facing x s) (kept : Option Seen) → kept ≡ Some (seen_client x) → begun_in kept ≡ Some (meeting_of x s f).begun
unfolding meeting_of
admits_met x s f kept admits = ap begun_in admits ∙ ap begun_of f.exchange_is

pub unbound_met : {A : Type 0} (x : Client) (s : Serving A) (f : Facing x s) → is_bound (meeting_of x s f).begun.binding ≡ false
unfolding meeting_of
unbound_met x s f = f.unbound

-- the first message of an exchange that isn't bound to the channel
pub unbound_first : (b : Begun) → is_bound b.binding ≡ false → initial b ≡ first_message (text_of b)
unbound_first b unbound = ap (λ (bound : Bool). SaslInitialResponse (mechanism_by bound) (Some (text_of b))) unbound

-- ---- what the server says is read

abbrev IsSaid : Message → Type 0
IsSaid m = IsInRange m × (cause m ≡ None)

reply_of : (m : Message) (rest : List ℕ) → IsSaid m → IsBytes (bytes_of m ++ rest) → IsReply m
reply_of m rest here bytes = record { in_range = here.0; none = here.1; bytes = frame_payload (bytes_of m ++ rest) (joined (parts m)) rest (tag_of m) bytes refl }

module _ (one : (m : Message) (rest : List ℕ) → IsReply m → TakesFrame (bytes_of m ++ rest) (Ok m) rest) (none : (bytes : List ℕ) → Frames bytes [] bytes)
    (next : (bytes before after : List ℕ) (results : List (Result Message Error)) (r : Result Message Error) → Frames bytes results before → TakesFrame before r after → Frames bytes (results ++ r ∷ []) after) where
  pub one_read : (m : Message) → IsSaid m → AreRead (bytes_of m) (m ∷ [])
  one_read m here rest bytes =
      let reply : IsReply m = reply_of m [] here (subst IsBytes (sym (append-nil (bytes_of m))) bytes) in
      next (bytes_of m ++ rest) (bytes_of m ++ rest) rest [] (Ok m) (none (bytes_of m ++ rest)) (one m rest reply)

  pub two_read : (m n : Message) → IsSaid m → IsSaid n → AreRead (bytes_of m ++ bytes_of n) (m ∷ n ∷ [])
  two_read m n here there rest bytes =
      let first : IsReply m = reply_of m (bytes_of n) here bytes in
      let second : IsReply n = reply_of n [] there (subst IsBytes (sym (append-nil (bytes_of n))) (bytes_behind (bytes_of m ++ bytes_of n) (bytes_of m) (bytes_of n) refl bytes)) in
      let all = bytes_of m ++ (bytes_of n ++ rest) in
      let front : Frames all (Ok m ∷ []) (bytes_of n ++ rest) = next all all (bytes_of n ++ rest) [] (Ok m) (none all) (one m (bytes_of n ++ rest) first) in
      subst (λ b. Frames b (Ok m ∷ Ok n ∷ []) rest) (sym (append_assoc (bytes_of m) (bytes_of n) rest)) (next all (bytes_of n ++ rest) rest (Ok m ∷ []) (Ok n) front (one n rest second))

-- ---- what the server decides

module _ {A : Type 0} where
  challenged_by : (server : Server) (text answer : List ℕ) (new : Method A) → IsChallenged (methods.Exchange server) text new answer → (mid : Server) × (new ≡ methods.Exchange mid) × Challenges server text mid answer
  challenged_by server text answer (methods.Exchange mid) h = (mid, refl, h)
  challenged_by server text answer new h = absurd h

  no_first : (client : Client) (server : Server) (meeting : Meeting client server) (text : List ℕ) → text ≡ text_of meeting.begun → (new : Method A) → IsNoFirst (methods.Exchange server) text new → ⊥
  no_first client server meeting text is (methods.Exchange mid) h = (first_memory {lacks = ⊥} client server mid h.0 meeting text is h.1).1
  no_first client server meeting text is new h = h

  first_comes : (client : Client) (server : Server) (meeting : Meeting client server) (text : List ℕ) → text ≡ text_of meeting.begun → (o : Outcome) (new : Method A) → Comes (serving.First scram text) (methods.Exchange server) o new
      → (answer : List ℕ) × (mid : Server) × (o ≡ Challenge answer) × (new ≡ methods.Exchange mid) × Challenges server text mid answer
  first_comes client server meeting text is (Challenge answer) new h =
      let c = challenged_by server text answer new h.1 in
      (answer, c.0, refl, c.1, c.2)
  first_comes client server meeting text is (Denied Violation) new (inl other) = absurd (other.0 refl)
  first_comes client server meeting text is (Denied Violation) new (inr none) = absurd (no_first client server meeting text is new none)
  first_comes client server meeting text is (Denied why) new h = absurd h
  first_comes client server meeting text is o new h = absurd h

  admitted_by : (server : Server) (text answer : List ℕ) (new : Method A) → IsAdmitted (methods.Exchange server) text new answer → (over : Server) × (new ≡ methods.Exchange over) × Admits server text over answer
  admitted_by server text answer (methods.Exchange over) h = (over, refl, h)
  admitted_by server text answer new h = absurd h

  final_comes : (client answered : Client) (server mid : Server) (meeting : Meeting client server) (first text final : List ℕ) → first ≡ text_of meeting.begun → Challenges server first mid text → (a : Answers client text answered)
      → final ≡ a.answered.final → (o : Outcome) (new : Method A) → Comes (serving.Final final) (methods.Exchange mid) o new
      → (signed : List ℕ) × (over : Server) × (o ≡ Signed signed) × Admits mid final over signed
  final_comes client answered server mid meeting first text final is ch a last (Signed signed) new h =
      let d = admitted_by mid final signed new h in
      (signed, d.0, refl, d.2)
  final_comes client answered server mid meeting first text final is ch a last (Denied WrongPassword) new h = absurd (no_final new h)
    where
      no_final : (new : Method A) → IsNoFinal (methods.Exchange mid) final new → ⊥
      no_final (methods.Exchange over) h = finish_never_refused client answered server mid over first text final h.0 meeting is ch a last h.1
      no_final new h = h
  final_comes client answered server mid meeting first text final is ch a last (Denied why) new h = absurd h
  final_comes client answered server mid meeting first text final is ch a last o new h = absurd h

  decided : (m : ClientMessage) (old new : Serving A) (p : ServingPhase) (start : Method A) (o : Outcome) → old.phase ≡ p → old.method ≡ start → Comes (due old.phase m) old.method o new.method → Comes (due p m) start o new.method
  decided m old new p start o e f h = subst (λ (q : ServingPhase). Comes (due q m) start o new.method) e (subst (λ (x : Method A). Comes (due old.phase m) x o new.method) f h)

-- ---- the server's steps

wanted : {L : Type 0} (memory : Type 0) (lacks : Held L → ℕ → Type 0) (answer : List ℕ → Outcome) (here : Held L) (e : Error) (text : List ℕ) (o : Outcome) → o ≡ answer text
    → WantsMemory (Wants lacks here (length (spelled o))) e ⊎ (cause_of o ≡ Some e) → IsServersWant memory lacks answer here (Err e)
wanted memory lacks answer here e text o is why = inr (text, subst (λ (x : Outcome). WantsMemory (Wants lacks here (length (spelled x))) e ⊎ (cause_of x ≡ Some e)) is why)

module _ {A L : Type 0} where
  -- the server is challenged by the client's first text
  pub record HasChallenged (server : Server) (first : List ℕ) (new : Serving A) (before behind : Held L) : Type 0 where
    pub text : List ℕ
    pub mid : Server
    pub phase : new.phase ≡ AwaitsFinal
    pub method : new.method ≡ methods.Exchange mid
    pub challenges : Challenges server first mid text
    pub none : cause (challenge text) ≡ None
    pub sent : behind ≡ before ⊕ spelled (Challenge text)

  pub record HasSigned (mid : Server) (final : List ℕ) (new : Serving A) (before behind : Held L) : Type 0 where
    pub signed : List ℕ
    pub over : Server
    pub phase : new.phase ≡ Open
    pub admits : Admits mid final over signed
    pub none : cause (signature signed) ≡ None
    pub sent : behind ≡ before ⊕ spelled (Signed signed)

module _ {A L : Type 0} (memory : Type 0) (lacks : Held L → ℕ → Type 0) where
  pub takes_first : (client : Client) (server : Server) (meeting : Meeting client server) (first : List ℕ) → first ≡ text_of meeting.begun → (old new : Serving A) (before behind : Held L) (result : Result ServingEvent Error)
      → old.phase ≡ AwaitsFirst → old.method ≡ methods.Exchange server → serving.Steps memory lacks (first_message first) old new before behind result
      → ((result ≡ Ok Challenged) × HasChallenged server first new before behind) ⊎ IsServersWant memory lacks Challenge before result
  takes_first client server meeting first is old new before behind (Ok event) phase method h =
      let d = first_comes client server meeting first is h.0 new.method (decided (first_message first) old new AwaitsFirst (methods.Exchange server) h.0 phase method h.1) in
      inl (
        ap Ok (h.2 ∙ ap serving.event_of d.2),
        record {
          text = d.0;
          mid = d.1;
          phase = h.3 ∙ ap serving.phase_after d.2;
          method = d.3;
          challenges = d.4;
          none = ap cause_of (sym d.2) ∙ h.4;
          sent = h.5 ∙ ap (λ (o : Outcome). before ⊕ spelled o) d.2;
        },
      )
  takes_first client server meeting first is old new before behind (Err e) phase method (over, left, inl memory) = inr (inl memory)
  takes_first client server meeting first is old new before behind (Err e) phase method (over, left, inr (o, comes, why)) =
      let d = first_comes client server meeting first is o new.method (decided (first_message first) old new AwaitsFirst (methods.Exchange server) o phase method comes) in
      inr (wanted memory lacks Challenge before e d.0 o d.2 why)

  pub takes_final : (client answered : Client) (server mid : Server) (meeting : Meeting client server) (first text final : List ℕ) → first ≡ text_of meeting.begun → Challenges server first mid text → (a : Answers client text answered)
      → final ≡ a.answered.final → (old new : Serving A) (before behind : Held L) (result : Result ServingEvent Error)
      → old.phase ≡ AwaitsFinal → old.method ≡ methods.Exchange mid → serving.Steps memory lacks (final_message final) old new before behind result
      → ((result ≡ Ok LoggedIn) × HasSigned mid final new before behind) ⊎ IsServersWant memory lacks Signed before result
  takes_final client answered server mid meeting first text final is ch a last old new before behind (Ok event) phase method h =
      let d = final_comes client answered server mid meeting first text final is ch a last h.0 new.method (decided (final_message final) old new AwaitsFinal (methods.Exchange mid) h.0 phase method h.1) in
      inl (
        ap Ok (h.2 ∙ ap serving.event_of d.2),
        record {
          signed = d.0;
          over = d.1;
          phase = h.3 ∙ ap serving.phase_after d.2;
          admits = d.3;
          none = ap cause_of (sym d.2) ∙ h.4;
          sent = h.5 ∙ ap (λ (o : Outcome). before ⊕ spelled o) d.2;
        },
      )
  takes_final client answered server mid meeting first text final is ch a last old new before behind (Err e) phase method (over, left, inl memory) = inr (inl memory)
  takes_final client answered server mid meeting first text final is ch a last old new before behind (Err e) phase method (over, left, inr (o, comes, why)) =
      let d = final_comes client answered server mid meeting first text final is ch a last o new.method (decided (final_message final) old new AwaitsFinal (methods.Exchange mid) o phase method comes) in
      inr (wanted memory lacks Signed before e d.0 o d.2 why)

-- ---- what goes out at the offer and at the end

pub offer_spelled : cause scram_offer ≡ None
unfolding int32
offer_spelled = refl

pub admission_spelled : cause admission ≡ None
unfolding int32
admission_spelled = refl

pub on_left : {P Q R : Type 0} → (P → Q) → P ⊎ R → Q ⊎ R
on_left f (inl p) = inl (f p)
on_left f (inr r) = inr r

-- the list of the one mechanism
pub the_offer : ((names : List (List ℕ)) → AllByRecursion IsMechanism names → MarkedItems TextSpelled TextRefused (names_of names) names None) → MarkedItems TextSpelled TextRefused (names_of (scram ∷ [])) (scram ∷ []) None
unfolding encode_utf8
the_offer back =
    let zero_free : HasNoZero scram = (λ e. cc, (λ e. cc, (λ e. cc, (λ e. cc, (λ e. cc, (λ e. cc, (λ e. cc, (λ e. cc, (λ e. cc, (λ e. cc, (λ e. cc, (λ e. cc, (λ e. cc, tt))))))))))))) in
    let text : IsUtf8 scram = (scram, (refl, refl)) in
    let some : scram ≢ [] = λ e. cc in
    back (scram ∷ []) ((zero_free, text, some), tt)

pub offers_scram : ((names : List (List ℕ)) → AllByRecursion IsMechanism names → MarkedItems TextSpelled TextRefused (names_of names) names None)
    → Lists scram (names_of (scram ∷ []))
offers_scram back = (scram ∷ [], the_offer back, (0, omega arith, refl))

-- and no mechanism that is bound to the channel
pub offers_no_binding : ((names : List (List ℕ)) → AllByRecursion IsMechanism names → MarkedItems TextSpelled TextRefused (names_of names) names None) → HasOneMarkedList TextSpelled TextRefused
    → Lists (codes "SCRAM-SHA-256-PLUS") (names_of (scram ∷ [])) → ⊥
offers_no_binding back only lists =
    let same : lists.0 ≡ scram ∷ [] = (only.one (names_of (scram ∷ [])) lists.0 (scram ∷ []) None None lists.1 (the_offer back)).0 in
    let is : scram ≡ codes "SCRAM-SHA-256-PLUS" = only_it scram (codes "SCRAM-SHA-256-PLUS") (subst (λ (l : List (List ℕ)). Contains l (codes "SCRAM-SHA-256-PLUS")) same lists.2) in
    cc
