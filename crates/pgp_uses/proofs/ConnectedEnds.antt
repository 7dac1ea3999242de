-- A client's connection and a server's core, turn by turn.
use Rattle.pgp_uses.proofs.Common.{◌≡◌, ℕ, Bool, List, [], ◌∷◌, ◌++◌, length, Option, Some, None, Result, Ok, Err, refl, sym, ap, subst, ◌∙◌, inl, inr, true, false, max, ◌≤◌, ◌<◌, arith, ◌⊎◌, AllByRecursion, Held, MarkedItems, Error, Begun, Client, Answers, refusal, Meeting, Server, Challenges, Admits, answer_meets, signature_never_refused, update_memory_met, Event, ClientMessage, Message, TextSpelled, TextRefused, Frames, TakesFrame, IsMechanism, IsReply, names_of, ConnectionLogsIn, Facing, HasStarted, IsConnectionsWant, Hears, IsUnfit, Shown, ComesInTime, is_end, is_logged_in, lacks_status, logged_in_at, Added, AddsReply, Replies, initial, is_bound, seen_client, admission, challenge, final_message, first_message, kind_in, scram, scram_offer, signature, ConnectionError, Serving, ServingPhase, Lists, codes}
use Rattle.std.proofs.Common.{◌+◌, get_or}
use Rattle.std.proofs.lemmas.Bool.{cases_lt}
use Rattle.std.proofs.lemmas.Bool.Decides.{nat_tests}
use Rattle.std.proofs.lemmas.List.{get_or_past}
use Rattle.std.proofs.lemmas.Str.{IsUtf8-from_ascii}
use Rattle.std.specs.Str.{IsUtf8}
use Rattle.pgp_auth.proofs.FirstTexts.{one_count}
use Rattle.pgp_auth.specs.IteratedKey.{salted}
use Rattle.pgp_auth.specs.ScramClient.{Answered, AwaitsFirst as AwaitsText, AwaitsFinal as AwaitsSignature, FinishRefused, NotShown, Over, UpdateRefused, first_text as text_of, signature_of}
use Rattle.pgp_auth.specs.ScramRefusal.{AsksFewer, OutOfMemory, Refusal as ScramRefusal}
use Rattle.pgp_auth.specs.ScramServer.{Signs}
use Rattle.pgp_auth.specs.Verifier.{verifier}
use Rattle.pgp_auth.specs.ScramText.{IsNonce, is_nonce_char}
use Rattle.pgp_base.specs.OneList.{HasOneMarkedList}
use Rattle.pgp_client.specs.Kinds.{kind_of}
use Rattle.pgp_client.specs.Taking.{asked, taken}
use Rattle.pgp_client.specs.Talk.{Talk}
use Rattle.pgp_client.specs.Telling.{start as unasked}
use Rattle.pgp_client.specs.declared.event.Event.TheVariants.{Part}
use Rattle.pgp_client.specs.declared.event.Refusal.{Refusal}
use Rattle.pgp_client.specs.declared.request.Request.TheVariants.{Startup}
use Rattle.pgp_client.specs.declared.stage.Stage.TheVariants.{Authenticating, Starting}
use Rattle.pgp_frontend.specs.ClientMessage.{SaslResponse}
use Rattle.pgp_login.specs.Exchange.{NoMemory, NoNonce, NotBegun as NeverBegun, NotSent, RefusesText, Refuses, Unbegun, Unsent, UnsentAs, WasBegun, NotReplied, mechanism_by}
use Rattle.pgp_login.specs.Fault.{Fault, Scram, Unwritten, fault}
use Rattle.pgp_login.specs.Login.{Kept as Login, Stands, begun_in}
use Rattle.pgp_login.specs.Machine.{Asking, AwaitsFinal, AwaitsFirst, AwaitsOffer, AwaitsOk, Declines, Done, FewRounds, Final, First, LacksMechanism, LogsOn, MayBeStripped, NoExchange, NoScram, NotAnswered, NotBegun, NotDue, NotSigned, Sasl, ScramBegins, ScramEnds, ScramGoesOn, State, Ways, Welcome, Welcomed, admitted, asking}
use Rattle.pgp_login.specs.declared.fault.LoginError.{LoginError}
use Rattle.pgp_login.specs.declared.fault.LoginError.TheVariants as code
use Rattle.pgp_login.specs.declared.login.LoginPhase.{LoginPhase}
use Rattle.pgp_login.specs.declared.login.LoginPhase.TheVariants.{Done as IsDone}
use Rattle.pgp_message_write.specs.Reply.{bytes_of}
use Rattle.pgp_session.specs.Login.{error_of, ways_in}
use Rattle.pgp_session.specs.Settings.{IsUnkept, most, setting_in}
use Rattle.pgp_session.specs.declared.connection.ConnectionPhase.{ConnectionPhase}
use Rattle.pgp_session.specs.declared.connection.ConnectionPhase.TheVariants.{Started}
use Rattle.pgp_uses.proofs.BothEnds.{admission_spelled, admits_met, count_met, meeting_of, offer_spelled, offers_no_binding, offers_scram, on_left, one_read, server_of, takes_final, takes_first, two_read, unbound_first, unbound_met}

-- ---- where a connection is

-- a log-in in this state, in the answer to the startup packet of this name
pub record Is (w : Ways) (s : State) (t : Talk) (c : Shown) : Type 0 where
  pub phase : c.phase ≡ Started
  pub talk : c.talk ≡ t
  pub stands : Stands w c.login.encrypted s c.login

-- the startup packet is being answered
abbrev pub under_way : ℕ → Talk
under_way name = record { stage = Authenticating; name = name; pending = [] }

stands_now : (w : Ways) (encrypted : Bool) (s : State) (l : Login) → Stands w encrypted s l → Stands w l.encrypted s l
stands_now w encrypted s l h = record { phase = h.phase; exchange = h.exchange; md5 = h.md5; cleartext = h.cleartext; none = h.none; least = h.least; channel = refl }

ok_same : (o : Result (Event × Talk) Refusal) (x y : Event × Talk) → o ≡ Ok x → o ≡ Ok y → x ≡ y
ok_same o x y e f = cc

ok_parts : (o : Result (Event × Talk) Refusal) (a b : Event) (t u : Talk) → o ≡ Ok (a, t) → o ≡ Ok (b, u) → (a ≡ b) × (t ≡ u)
ok_parts o a b t u e f =
    let same = ok_same o (a, t) (b, u) e f in
    (ap (λ (x : Event × Talk). x.0) same, ap (λ (x : Event × Talk). x.1) same)

is_some : (x : Event × Message) (e : Event) (m : Message) → x.0 ≡ e → x.1 ≡ m → x ≡ (e, m)
is_some x e m p q = rw (← p, ← q) refl

no_end : (e : Event) (name : ℕ) → e ≡ Part name → is_end e ≡ true → ⊥
no_end e name is ends = no (ap is_end (sym is) ∙ ends)
  where
    no : false ≡ true → ⊥
    no f = cc

no_refusal : (x : Event × Talk) (r : Refusal) (o : Result (Event × Talk) Refusal) → o ≡ Ok x → o ≡ Err r → ⊥
no_refusal x r o e f = cc

-- What a message comes to that belongs to the startup packet and reports no setting: the log-in goes on, with this reply, or declines it.
pub record Took (w : Ways) (m : Message) (s : State) (next : Talk) (old new : Shown) : Type 0 where
  pub reply : Option ClientMessage
  pub after : State
  pub logs : LogsOn w old.login.encrypted (asking m) reply s after
  pub adds : AddsReply reply old.out new.out
  pub is : Is w after next new

module _ {E : Type 0} (lacks : Type 0) (w : Ways) where
  heard : (m : Message) (name : ℕ) (s : State) (t next : Talk) (old new : Shown) (result : Result (Option (Event × Message)) (ConnectionError E)) → Is w s t old → taken old.talk (kind_of m) ≡ Ok (Part name, next)
      → ((cause : Error) → IsUnkept lacks most (setting_in m) old.server.settings cause → ⊥) → ((cause : ConnectionError E) → IsUnfit lacks old m cause → ⊥) → Hears lacks m old new result
      → ((result ≡ Ok (Some (Part name, m))) × Took w m s next old new)
      ⊎ ((f : LoginError E) × (result ≡ Err (error_of f)) × Declines lacks w old.login.encrypted s (asking m) (fault f))
  heard m name s t next old new (Ok None) here is kept fit h = absurd h
  heard m name s t next old new (Ok (Some x)) here is kept fit (same, inl took) =
      let at = ok_parts (taken old.talk (kind_of m)) x.0 (Part name) new.talk next took.taken is in
      let f = took.logged w old.login.encrypted s here.stands in
      inl (
        ap (λ (y : Event × Message). Ok (Some y)) (is_some x (Part name) m at.0 same),
        record {
          reply = f.logged.reply;
          after = f.state;
          logs = f.logged.logs;
          adds = f.logged.adds;
          is = record { phase = ap (λ (c : Shown). c.phase) took.is ∙ here.phase; talk = at.1; stands = stands_now w old.login.encrypted f.state new.login f.stands };
        },
      )
  heard m name s t next old new (Ok (Some x)) here is kept fit (same, inr took) =
      let at = ok_parts (taken old.talk (kind_of m)) x.0 (Part name) new.talk next took.taken is in
      absurd (no_end x.0 name at.0 took.ends)
  heard m name s t next old new (Err e) here is kept fit (inl stops) = absurd (no_refusal (Part name, next) stops.0 (taken old.talk (kind_of m)) is stops.1)
  heard m name s t next old new (Err e) here is kept fit (inr (inl stops)) = absurd (fit e stops.2)
  heard m name s t next old new (Err e) here is kept fit (inr (inr (inl stops))) = absurd (kept stops.2 stops.3)
  heard m name s t next old new (Err e) here is kept fit (inr (inr (inr stops))) = inr (stops.4.0, ap Err stops.4.1, stops.4.2 w old.login.encrypted s here.stands)

-- a message of a log-in comes in time
module _ {E : Type 0} (lacks : Type 0) where
  in_time : (c : Shown) (m : Message) → ComesInTime c m → lacks_status m ≡ false → (e : ConnectionError E) → IsUnfit lacks c m e → ⊥
  in_time c m timely status e (inl h) = absurd (h.0 timely)
  in_time c m timely status e (inr h) = let f = h.1 in cc

-- ---- the texts of an exchange

same_begun : (o : Option Begun) (a b : Begun) → o ≡ Some a → o ≡ Some b → a ≡ b
same_begun o a b e f = cc

no_begun : (o : Option Begun) (b : Begun) → o ≡ Some b → o ≡ None → ⊥
no_begun o b e f = cc

nonce_low : (b : ℕ) → is_nonce_char b ≡ true → b < 128
nonce_low b h = grind (arith, nat_tests, h)

nonce_text : (n : List ℕ) → IsNonce n → IsUtf8 n
nonce_text n nonce = IsUtf8-from_ascii n (λ i. elim (cases_lt i (length n)) [
  | inl within ↦ nonce_low (get_or n i 0) (nonce.1 i 0 within)
  | inr past ↦ rw (get_or_past n i 0 past) (omega arith)
])

-- the client as pgp_auth has it, once it has answered
abbrev answered_by : (b : Begun) (text answer shown : List ℕ) → Replies b text answer shown → Answered
answered_by b text answer shown r = record { key = salted b.password r.salt r.count; auth = r.signs.auth; final = answer }

shown_by : (b : Begun) (text answer shown : List ℕ) (r : Replies b text answer shown) → shown ≡ signature_of (answered_by b text answer shown r)
unfolding verifier
shown_by b text answer shown r = r.signs.signature_is

abbrev answered_client : (x : Client) (b : Begun) (text answer shown : List ℕ) → Replies b text answer shown → Client
answered_client x b text answer shown r = record { state = AwaitsSignature (answered_by b text answer shown r); hmacs = x.hmacs + (max r.count 1 + 2) }

answers_by : (x : Client) (b : Begun) (text answer shown : List ℕ) (r : Replies b text answer shown) → x.state ≡ AwaitsText b → Answers x text (answered_client x b text answer shown r)
answers_by x b text answer shown r is = record {
  begun = b;
  nonce = r.nonce;
  salt = r.salt;
  count = r.count;
  answered = answered_by b text answer shown r;
  due = is;
  meets = r.meets;
  accepts = r.accepts;
  signs = subst (λ (s : List ℕ). Signs (verifier b.password r.salt r.count) b.binding (text_of b) text s) (shown_by b text answer shown r) r.signs;
  key_is = refl;
  new_is = refl;
}

-- a text that isn't answered ends it
refused_first : (lacks : Type 0) (x : Client) (b : Begun) (text : List ℕ) (r : ScramRefusal) → x.state ≡ AwaitsText b → RefusesText lacks b text r → (y : Client) × UpdateRefused lacks x text r y
refused_first lacks x b text r is (inl h) = (record { state = Over; hmacs = x.hmacs }, record { why = rw is (inl (h, refl)); over = refl })
refused_first lacks x b text r is (inr h) = (record { state = Over; hmacs = x.hmacs }, record { why = rw is (inr (h.0, h.1, h.2, inl refl)); over = refl })

refused_final : (lacks : Type 0) (y : Client) (a : Answered) (text : List ℕ) (r : ScramRefusal) → y.state ≡ AwaitsSignature a → NotShown lacks (signature_of a) text r → (z : Client) × FinishRefused lacks y text r z
refused_final lacks y a text r is (inl h) = (record { state = Over; hmacs = y.hmacs }, record { why = rw is (inl (h, refl)); over = refl })
refused_final lacks y a text r is (inr (inl h)) = (record { state = Over; hmacs = y.hmacs + 2 }, record { why = rw is (inr (inl (h.0, h.1, refl))); over = refl })
refused_final lacks y a text r is (inr (inr h)) = (record { state = Over; hmacs = y.hmacs }, record { why = rw is (inr (inr (h.0, h.1, h.2, refl))); over = refl })

-- ---- why a step is declined: for want of memory, or since the reply is too long

module _ (lacks : Type 0) where
  abbrev IsWant : (List ℕ → ClientMessage) → Fault → Type 0
  IsWant reply (Scram r) = (r ≡ OutOfMemory) × lacks
  IsWant reply (Unwritten e) = (text : List ℕ) × Unsent lacks (reply text) e
  IsWant reply f = ⊥

  want_at : {E : Type 0} (reply : List ℕ → ClientMessage) (f : LoginError E) → IsWant reply (fault f) → IsConnectionsWant {E = E} lacks reply (Err (error_of f))
  want_at reply code.Undue h = absurd h
  want_at reply code.NotAdmitted h = absurd h
  want_at reply code.NotOffered h = absurd h
  want_at reply code.TooFewRounds h = absurd h
  want_at reply code.BadNonce h = absurd h
  want_at reply (code.Scram e) h = h
  want_at reply (code.Unwritten e) h = h

  unsent_want : (reply : List ℕ → ClientMessage) (text : List ℕ) (f : Fault) → UnsentAs lacks (reply text) f → IsWant reply f
  unsent_want reply text f u = subst (λ (g : Fault). IsWant reply g) (sym u.1) (text, u.2)

  module _ (w : Ways) (b : Begun) (is : w.scram ≡ Some b) where
    unbegun_want : (reply : List ℕ → ClientMessage) (f : Fault) → IsNonce b.nonce → Unbegun lacks (admitted w) f → IsWant reply f
    unbegun_want reply f nonce (WasBegun none) = absurd (no_begun w.scram b is none)
    unbegun_want reply f nonce (NoNonce c same (inl text)) = absurd (text (subst (λ (x : Begun). IsUtf8 x.nonce) (same_begun w.scram b c is same) (nonce_text b.nonce nonce)))
    unbegun_want reply f nonce (NoNonce c same (inr none)) = absurd (none (subst (λ (x : Begun). IsNonce x.nonce) (same_begun w.scram b c is same) nonce))
    unbegun_want reply f nonce (NoMemory memory) = (refl, memory)

    offer_want : (encrypted : Bool) (mechanisms : List ℕ) (f : Fault) → IsNonce b.nonce → is_bound b.binding ≡ false → Lists scram mechanisms → (Lists (codes "SCRAM-SHA-256-PLUS") mechanisms → ⊥)
        → Declines lacks w encrypted AwaitsOffer (Sasl mechanisms) f → IsWant first_message f
    offer_want encrypted mechanisms f nonce unbound lists bare (NotDue late) = absurd cc
    offer_want encrypted mechanisms f nonce unbound lists bare (NoScram none) = absurd (no_begun w.scram b is none)
    offer_want encrypted mechanisms f nonce unbound lists bare (LacksMechanism c same none) =
        let has : Lists (mechanism_by (is_bound c.binding)) mechanisms =
        subst (λ (x : Begun). Lists (mechanism_by (is_bound x.binding)) mechanisms) (same_begun w.scram b c is same) (subst (λ (bound : Bool). Lists (mechanism_by bound) mechanisms) (sym unbound) lists) in
        absurd (none has)
    offer_want encrypted mechanisms f nonce unbound lists bare (MayBeStripped c same offered stripped) = absurd (bare stripped.2)
    offer_want encrypted mechanisms f nonce unbound lists bare (NotBegun c same offered safe (inl unbegun)) = unbegun_want first_message f nonce unbegun
    offer_want encrypted mechanisms f nonce unbound lists bare (NotBegun c same offered safe (inr unsent)) =
        let at : initial c ≡ first_message (text_of b) = ap initial (same_begun w.scram c b same is) ∙ unbound_first b unbound in
        unsent_want first_message (text_of b) f (subst (λ (m : ClientMessage). UnsentAs lacks m f) at unsent)

    -- the server asks for as many rounds as its verifier has
    rounds_enough : (server mid : Server) (start : Client) (meeting : Meeting start server) (first text : List ℕ) → first ≡ text_of meeting.begun → Challenges server first mid text → max w.least 1 ≤ meeting.count → AsksFewer w.least text → ⊥
    rounds_enough server mid start meeting first text at ch enough asks =
        let met = answer_meets start server mid first text meeting at ch in
        let same = one_count text asks.nonce asks.salt_text (meeting.begun.nonce ++ meeting.serving.own) met.salt_text asks.count meeting.count asks.text_is met.text_is in
        omega (arith, asks.fewer, same, enough)

    text_want : (encrypted : Bool) (server mid : Server) (start : Client) (meeting : Meeting start server) (first text : List ℕ) (f : Fault) → meeting.begun ≡ b → first ≡ text_of meeting.begun → Challenges server first mid text
        → max w.least 1 ≤ meeting.count → Declines lacks w encrypted AwaitsFirst (First text) f → IsWant final_message f
    text_want encrypted server mid start meeting first text f begun at ch enough (NotDue late) = absurd cc
    text_want encrypted server mid start meeting first text f begun at ch enough (FewRounds fewer) = absurd (rounds_enough server mid start meeting first text at ch enough fewer)
    text_want encrypted server mid start meeting first text f begun at ch enough (NoExchange none many) = absurd (no_begun w.scram b is none)
    text_want encrypted server mid start meeting first text f begun at ch enough (NotAnswered many (NeverBegun unbegun)) =
        unbegun_want final_message f (subst (λ (x : Begun). IsNonce x.nonce) begun meeting.is_nonce) unbegun
    text_want encrypted server mid start meeting first text f begun at ch enough (NotAnswered many (Refuses c r same f_is why)) =
        let state : start.state ≡ AwaitsText c = meeting.client_is ∙ ap AwaitsText (begun ∙ same_begun w.scram b c is same) in
        let y = refused_first lacks start c text r state why in
        subst (λ (g : Fault). IsWant final_message g) (sym f_is) (update_memory_met {lacks = lacks} start y.0 server mid first text r meeting at ch y.1)
    text_want encrypted server mid start meeting first text f begun at ch enough (NotAnswered many (NotSent c answer shown same replies unsent)) = unsent_want final_message answer f unsent

  final_never : (w : Ways) (encrypted : Bool) (server mid done : Server) (start x : Client) (meeting : Meeting start server) (first text final signed shown : List ℕ) (f : Fault) → first ≡ text_of meeting.begun → Challenges server first mid text
      → (a : Answers start text x) → shown ≡ signature_of a.answered → Admits mid final done signed → Declines lacks w encrypted (AwaitsFinal shown) (Final signed) f → ⊥
  final_never w encrypted server mid done start x meeting first text final signed shown f at ch a is admits (NotDue late) = absurd cc
  final_never w encrypted server mid done start x meeting first text final signed shown f at ch a is admits (NotSigned same r why) =
      let z = refused_final lacks x a.answered signed r (ap (λ (c : Client). c.state) a.new_is) (subst (λ (s : List ℕ). NotShown lacks s signed r) is why) in
      signature_never_refused {lacks = lacks} start x z.0 server mid done first text final signed r meeting at ch a admits z.1

  welcome_never : (w : Ways) (encrypted : Bool) (f : Fault) → Declines lacks w encrypted AwaitsOk Welcome f → ⊥
  welcome_never w encrypted f (NotDue late) = absurd cc

-- ---- the connection's turns

pub record HasBegun (name : ℕ) (w : Ways) (b : Begun) (old new : Shown) : Type 0 where
  pub at : Is w AwaitsFirst (under_way name) new
  pub added : Added (first_message (text_of b)) old.out new.out

pub record HasReplied (name : ℕ) (w : Ways) (start : Client) (text : List ℕ) (old new : Shown) : Type 0 where
  pub exchange : Client
  pub answers : Answers start text exchange
  pub shown : List ℕ
  pub shown_is : shown ≡ signature_of answers.answered
  pub at : Is w (AwaitsFinal shown) (under_way name) new
  pub added : Added (final_message answers.answered.final) old.out new.out

module _ (name : ℕ) (w : Ways) where
  begins_with : (b : Begun) (encrypted : Bool) (mechanisms : List ℕ) (reply : Option ClientMessage) (after : State) (old new : Shown) → w.scram ≡ Some b → is_bound b.binding ≡ false
      → LogsOn w encrypted (Sasl mechanisms) reply AwaitsOffer after → AddsReply reply old.out new.out → Is w after (under_way name) new → HasBegun name w b old new
  begins_with b encrypted mechanisms reply after old new is unbound (ScramBegins c same lists safe) adds at =
      let first : initial c ≡ first_message (text_of b) = ap initial (same_begun w.scram c b same is) ∙ unbound_first b unbound in
      record { at = at; added = subst (λ (m : ClientMessage). Added m old.out new.out) first adds }

  replies_with : (start : Client) (b : Begun) (encrypted : Bool) (text : List ℕ) (reply : Option ClientMessage) (after : State) (old new : Shown) → w.scram ≡ Some b → start.state ≡ AwaitsText b
      → LogsOn w encrypted (First text) reply AwaitsFirst after → AddsReply reply old.out new.out → Is w after (under_way name) new → HasReplied name w start text old new
  unfolding answers_by
  replies_with start b encrypted text reply after old new is state (ScramGoesOn c answer shown same many replies) adds at =
      let begun : start.state ≡ AwaitsText c = state ∙ ap AwaitsText (same_begun w.scram b c is same) in
      record {
        exchange = answered_client start c text answer shown replies;
        answers = answers_by start c text answer shown replies begun;
        shown = shown;
        shown_is = shown_by c text answer shown replies;
        at = at;
        added = adds;
      }

  ended_by : (encrypted : Bool) (text shown : List ℕ) (reply : Option ClientMessage) (after : State) (new : Shown) → LogsOn w encrypted (Final text) reply (AwaitsFinal shown) after → Is w after (under_way name) new → Is w AwaitsOk (under_way name) new
  ended_by encrypted text shown reply after new (ScramEnds signature verifies) at = at

  welcomed_by : (encrypted : Bool) (reply : Option ClientMessage) (after : State) (t : Talk) (new : Shown) → LogsOn w encrypted Welcome reply AwaitsOk after → Is w after t new → Is w Done t new
  welcomed_by encrypted reply after t new Welcomed at = at

module _ {E : Type 0} (lacks : Type 0) (name : ℕ) (w : Ways) where
  wanted : (reply : List ℕ → ClientMessage) (result : Result (Option (Event × Message)) (ConnectionError E)) (f : LoginError E) → result ≡ Err (error_of f) → IsWant lacks reply (fault f) → IsConnectionsWant lacks reply result
  wanted reply result f is h = subst (λ (r : Result (Option (Event × Message)) (ConnectionError E)). IsConnectionsWant lacks reply r) (sym is) (want_at lacks {E = E} reply f h)

  pub takes_offer : (there : Server) (x : Client) (meeting : Meeting x there) → w.scram ≡ Some meeting.begun → is_bound meeting.begun.binding ≡ false → (old new : Shown) (result : Result (Option (Event × Message)) (ConnectionError E))
      → Lists scram (names_of (scram ∷ [])) → (Lists (codes "SCRAM-SHA-256-PLUS") (names_of (scram ∷ [])) → ⊥)
      → Is w AwaitsOffer (asked unasked (record { request = Startup; name = name })) old → Hears lacks scram_offer old new result
      → ((result ≡ Ok (Some (Part name, scram_offer))) × HasBegun name w meeting.begun old new) ⊎ IsConnectionsWant lacks first_message result
  takes_offer there x meeting is unbound old new result lists bare here h =
      by (heard lacks w scram_offer name AwaitsOffer (asked unasked (record { request = Startup; name = name })) (under_way name) old new result here (ap (λ (t : Talk). taken t (kind_of scram_offer)) here.talk) (λ cause unkept. unkept) (λ cause unfit. in_time lacks old scram_offer tt refl cause unfit) h)
    where
      by : ((result ≡ Ok (Some (Part name, scram_offer))) × Took w scram_offer AwaitsOffer (under_way name) old new)
          ⊎ ((f : LoginError E) × (result ≡ Err (error_of f)) × Declines lacks w old.login.encrypted AwaitsOffer (asking scram_offer) (fault f))
          → ((result ≡ Ok (Some (Part name, scram_offer))) × HasBegun name w meeting.begun old new) ⊎ IsConnectionsWant lacks first_message result
      by (inl (same, took)) = inl (same, begins_with name w meeting.begun old.login.encrypted (names_of (scram ∷ [])) took.reply took.after old new is unbound took.logs took.adds took.is)
      by (inr (f, same, declines)) = inr (wanted first_message result f same (offer_want lacks w meeting.begun is old.login.encrypted (names_of (scram ∷ [])) (fault f) meeting.is_nonce unbound lists bare declines))

  pub takes_text : (server mid : Server) (start : Client) (meeting : Meeting start server) → w.scram ≡ Some meeting.begun → (first text : List ℕ) → first ≡ text_of meeting.begun → Challenges server first mid text → max w.least 1 ≤ meeting.count
      → (old new : Shown) (result : Result (Option (Event × Message)) (ConnectionError E)) → Is w AwaitsFirst (under_way name) old → Hears lacks (challenge text) old new result
      → ((result ≡ Ok (Some (Part name, challenge text))) × HasReplied name w start text old new) ⊎ IsConnectionsWant lacks final_message result
  takes_text server mid start meeting is first text at ch enough old new result here h =
      by (heard lacks w (challenge text) name AwaitsFirst (under_way name) (under_way name) old new result here (ap (λ (t : Talk). taken t (kind_of (challenge text))) here.talk) (λ cause unkept. unkept) (λ cause unfit. in_time lacks old (challenge text) tt refl cause unfit) h)
    where
      by : ((result ≡ Ok (Some (Part name, challenge text))) × Took w (challenge text) AwaitsFirst (under_way name) old new)
          ⊎ ((f : LoginError E) × (result ≡ Err (error_of f)) × Declines lacks w old.login.encrypted AwaitsFirst (asking (challenge text)) (fault f))
          → ((result ≡ Ok (Some (Part name, challenge text))) × HasReplied name w start text old new) ⊎ IsConnectionsWant lacks final_message result
      by (inl (same, took)) = inl (same, replies_with name w start meeting.begun old.login.encrypted text took.reply took.after old new is meeting.client_is took.logs took.adds took.is)
      by (inr (f, same, declines)) = inr (wanted final_message result f same (text_want lacks w meeting.begun is old.login.encrypted server mid start meeting first text (fault f) refl at ch enough declines))

  pub takes_signature : (server mid done : Server) (start x : Client) (meeting : Meeting start server) (first text final signed shown : List ℕ) → first ≡ text_of meeting.begun → Challenges server first mid text
      → (a : Answers start text x) → shown ≡ signature_of a.answered → Admits mid final done signed → (old new : Shown) (result : Result (Option (Event × Message)) (ConnectionError E))
      → Is w (AwaitsFinal shown) (under_way name) old → Hears lacks (signature signed) old new result
      → (result ≡ Ok (Some (Part name, signature signed))) × Is w AwaitsOk (under_way name) new
  takes_signature server mid done start x meeting first text final signed shown at ch a is admits old new result here h =
      by (heard lacks w (signature signed) name (AwaitsFinal shown) (under_way name) (under_way name) old new result here (ap (λ (t : Talk). taken t (kind_of (signature signed))) here.talk) (λ cause unkept. unkept) (λ cause unfit. in_time lacks old (signature signed) tt refl cause unfit) h)
    where
      by : ((result ≡ Ok (Some (Part name, signature signed))) × Took w (signature signed) (AwaitsFinal shown) (under_way name) old new)
          ⊎ ((f : LoginError E) × (result ≡ Err (error_of f)) × Declines lacks w old.login.encrypted (AwaitsFinal shown) (asking (signature signed)) (fault f))
          → (result ≡ Ok (Some (Part name, signature signed))) × Is w AwaitsOk (under_way name) new
      by (inl (same, took)) = (same, ended_by name w old.login.encrypted signed shown took.reply took.after new took.logs took.is)
      by (inr (f, same, declines)) = absurd (final_never lacks w old.login.encrypted server mid done start x meeting first text final signed shown (fault f) at ch a is admits declines)

  pub takes_welcome : (old new : Shown) (result : Result (Option (Event × Message)) (ConnectionError E)) → Is w AwaitsOk (under_way name) old → Hears lacks admission old new result
      → (result ≡ Ok (Some (Part name, admission))) × (is_logged_in new ≡ true)
  takes_welcome old new result here h =
      by (heard lacks w admission name AwaitsOk (under_way name) (record { stage = Starting; name = name; pending = [] }) old new result here (ap (λ (t : Talk). taken t (kind_of admission)) here.talk) (λ cause unkept. unkept) (λ cause unfit. in_time lacks old admission tt refl cause unfit) h)
    where
      by : ((result ≡ Ok (Some (Part name, admission))) × Took w admission AwaitsOk (record { stage = Starting; name = name; pending = [] }) old new)
          ⊎ ((f : LoginError E) × (result ≡ Err (error_of f)) × Declines lacks w old.login.encrypted AwaitsOk (asking admission) (fault f))
          → (result ≡ Ok (Some (Part name, admission))) × (is_logged_in new ≡ true)
      by (inl (same, took)) =
          let at = welcomed_by name w old.login.encrypted took.reply took.after (record { stage = Starting; name = name; pending = [] }) new took.logs took.is in
          (same, ap (λ (p : ConnectionPhase). logged_in_at p new.login.phase) at.phase ∙ ap (λ (q : LoginPhase). logged_in_at Started q) at.stands.phase)
      by (inr (f, same, declines)) = absurd (welcome_never lacks w old.login.encrypted (fault f) declines)

-- ---- all turns

module _ (one : (m : Message) (rest : List ℕ) → IsReply m → TakesFrame (bytes_of m ++ rest) (Ok m) rest) (none : (bytes : List ℕ) → Frames bytes [] bytes)
    (next : (bytes before after : List ℕ) (results : List (Result Message Error)) (r : Result Message Error) → Frames bytes results before → TakesFrame before r after → Frames bytes (results ++ r ∷ []) after)
    (back : (names : List (List ℕ)) → AllByRecursion IsMechanism names → MarkedItems TextSpelled TextRefused (names_of names) names None) (only : HasOneMarkedList TextSpelled TextRefused)
    {A L : Type 0} (E : Type 0) (lacks memory_there : Type 0) (lacks_there : Held L → ℕ → Type 0) where
  pub connects : (name : ℕ) (exchange : Client) (client : Shown) (there : Serving A) → HasStarted name exchange client → (facing : Facing exchange there) → max client.login.least 1 ≤ facing.count → ConnectionLogsIn E lacks memory_there lacks_there name client there
  connects name exchange client there started facing enough =
      let mate = server_of facing in
      let meeting = meeting_of exchange there facing in
      let w = ways_in client.login in
      let admits : w.scram ≡ Some meeting.begun = admits_met exchange there facing client.login.scram started.admits in
      let met : max w.least 1 ≤ meeting.count = subst (λ (n : ℕ). max w.least 1 ≤ n) (sym (count_met exchange there facing)) enough in
      let here : Is w AwaitsOffer (asked unasked (record { request = Startup; name = name })) client = record {
        phase = started.phase;
        talk = started.talk;
        stands = record { phase = started.awaits; exchange = refl; md5 = refl; cleartext = refl; none = refl; least = refl; channel = refl };
      } in
      let first = text_of meeting.begun in (
        one_read one none next scram_offer (tt, offer_spelled),
        λ begun r1 h1. on_left (λ x. (
          x.0,
          (
            first,
            x.1.added,
            (
              ap (λ (p : ServingPhase). kind_in p ∷ []) (sym facing.awaits),
              λ challenged before behind r2 h2. on_left (λ y. (
                y.0,
                (
                  y.1.text,
                  (y.1.sent, one_read one none next (challenge y.1.text) (tt, y.1.none)),
                  λ replied r3 h3. on_left (λ z. (
                    z.0,
                    (
                      z.1.answers.answered.final,
                      z.1.added,
                      (
                        ap (λ (p : ServingPhase). kind_in p ∷ []) (sym y.1.phase),
                        λ through earlier later r4 h4. on_left (λ v. (
                          v.0,
                          (
                            v.1.signed,
                            (v.1.sent, two_read one none next (signature v.1.signed) admission (tt, v.1.none) (tt, admission_spelled)),
                            λ verified r5 h5.
                                let s = takes_signature {E = E} lacks name w mate y.1.mid v.1.over exchange z.1.exchange meeting first y.1.text z.1.answers.answered.final v.1.signed z.1.shown refl y.1.challenges z.1.answers z.1.shown_is v.1.admits replied verified r5 z.1.at h5 in
                                inl (
                                  s.0,
                                  λ admitted r6 h6.
                                      let u = takes_welcome {E = E} lacks name w verified admitted r6 s.1 h6 in
                                      inl (u.0, (u.1, v.1.phase)),
                                ),
                          ),
                        )) (takes_final memory_there lacks_there exchange z.1.exchange mate y.1.mid meeting first y.1.text z.1.answers.answered.final refl y.1.challenges z.1.answers refl challenged through earlier later r4 y.1.phase y.1.method h4),
                      ),
                    ),
                  )) (takes_text {E = E} lacks name w mate y.1.mid exchange meeting admits first y.1.text refl y.1.challenges met begun replied r3 x.1.at h3),
                ),
              )) (takes_first memory_there lacks_there exchange mate meeting first refl there challenged before behind r2 facing.awaits facing.holds h2),
            ),
          ),
        )) (takes_offer {E = E} lacks name w mate exchange meeting admits (unbound_met exchange there facing) client begun r1 (offers_scram back) (offers_no_binding back only) here h1),
      )
