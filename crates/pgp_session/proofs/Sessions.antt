-- What is known of a connection, after each call, and what follows from it.
use Rattle.pgp_session.proofs.Common.{◌≡◌, ◌≢◌, ℕ, Bool, true, false, List, [], ◌∷◌, ◌++◌, take, drop, map, Option, Some, None, Result, Ok, refl, sym, ap, subst, ◌∙◌, append_assoc, arith, inl, inr, option_to_list, if◌then◌else◌, ◌&&◌, flat_map, append-nil, take-append-drop, Error, kind_of, request_of, awaits_data, is_copying, taken, Talk, Turn, Asks, asked_in, observed_in, reported_in, start, Event, Ended, Request, ClientMessage, CancelRequest, GssEncRequest, PasswordMessage, SaslInitialResponse, SaslResponse, SslRequest, Startup, Terminate, bytes_of, tag_of, run_more, opened_more, nothing, Message, Frames, TakesFrame, HasStarted, Sent, Shown, Took, Wrote, asked_of, begun, in_phase, is_end, is_logged_in, logged_in_at, may_send, with_incoming, Added, AddsReply, Follows, History, IsOpenedAt, Known, and_fed, and_observed, and_sent, and_wrote, good, is_secret, requests_in, requests_of, turns_of, Said, heard, nothing_said, value_of, ConnectionPhase, Encrypting, Started, told, dropped, fed, Asked, Belong, AreNamed, and_parts, secrets_of, filter-append, cond-true, cond-false, AllByRecursion}
use Rattle.std.proofs.lemmas.List.Concat.{flat_map-cons}
use Rattle.std.proofs.lemmas.Grind.{flat_map-append}
use Rattle.pgp_client.specs.InTurns.{BelongInTurns}
use Rattle.pgp_client.specs.Telling.{Hears as HearsTurn, Follows as FollowsTurns}
use Rattle.pgp_frontend.specs.Reading.{IsNamed}
use Rattle.pgp_frontend.specs.ClientRun.{ClientRun, MayCome, is_opened, is_startup, kinds_of}
use Rattle.pgp_session.specs.Session.{nothing as no_history}
use Rattle.pgp_session.proofs.Naming.{named_all, named_heard, named_next, named_still}
use Rattle.pgp_session.proofs.Reported.{said_more, states_follow, values_follow}
use Rattle.pgp_session.specs.declared.connection.ConnectionPhase.TheVariants.{Opening, Over as OverPhase}
use Rattle.std.specs.Prelude.{◌||◌}
use Rattle.pgp_login.proofs.Dialogues.{follows as talks_follow}
use Rattle.pgp_login.proofs.Speaking.{packet_spoken, spoken_after}
use Rattle.pgp_login.specs.Timely.{IsTimely, Offered}
use Rattle.pgp_login.specs.Versions.{answered as version_in, is_admitted, newer as newer_version, spoken}
use Rattle.pgp_login.specs.declared.versions.Versions.{Versions}
use Rattle.pgp_login.specs.declared.versions.Versions.TheVariants.{Only3_2}
use Rattle.pgp_frontend.specs.declared.startup.ProtocolVersion.{ProtocolVersion}
use Rattle.pgp_frontend.specs.declared.startup.ProtocolVersion.TheVariants.{V3_2}
use Rattle.pgp_session.specs.Connection.{done_at as done_in, packet_of}
use Rattle.pgp_session.specs.Session.{SpeaksAt}
use Rattle.pgp_session.specs.Login.{encrypted_by, ways_in}
use Rattle.pgp_login.specs.Login.{Follows as LoggedTo, Kept as Login, Stands}
use Rattle.pgp_login.specs.Machine.{Asking, AwaitsOffer, ByCleartext, ByMd5, Done, LogsOn, ScramBegins, ScramGoesOn, State, Ways, asking, phase_of}
use Rattle.pgp_login.specs.Session.{Admitted, IsAllowed}
use Rattle.pgp_login.specs.Talks.{AsksOne, HearsOne, Opens, Talks}
use Rattle.pgp_login.specs.declared.login.LoginPhase.{LoginPhase}
use Rattle.pgp_login.specs.declared.login.LoginPhase.TheVariants.{AwaitsOffer as AwaitsOfferThere, Done as IsDone}

-- ---- what was written and heard

-- a message is written after others
run_one : (l : List ClientMessage) (m : ClientMessage) (sent out grown : List ℕ) → ClientRun (flat_map kinds_of l) l (sent ++ out) → MayCome m (is_opened l) → Added m out grown
    → ClientRun (flat_map kinds_of (l ++ m ∷ [])) (l ++ m ∷ []) (sent ++ grown)
run_one l m sent out grown run may added =
    let r = run_more (flat_map kinds_of l) l m (sent ++ out) run may added.none added.in_range in
    let bytes : (sent ++ out) ++ bytes_of m ≡ sent ++ grown = append_assoc sent out (bytes_of m) ∙ ap (λ b. sent ++ b) (sym added.bytes) in
    subst (λ b. ClientRun (flat_map kinds_of (l ++ m ∷ [])) (l ++ m ∷ []) b) bytes (subst (λ ks. ClientRun ks (l ++ m ∷ []) ((sent ++ out) ++ bytes_of m)) r.reported r)

opened_still : (l : List ClientMessage) (m : ClientMessage) → is_opened l ≡ true → is_opened (l ++ m ∷ []) ≡ true
opened_still l m e = opened_more l m ∙ go (is_startup m)
  where
    go : (b : Bool) → (if b then true else is_opened l) ≡ true
    go true = refl
    go false = e

tagged_may : (l : List ClientMessage) (m : ClientMessage) → is_opened l ≡ true → tag_of m ≢ None → MayCome m (is_opened l)
tagged_may l m e tagged = subst (λ (b : Bool). MayCome m b) (sym e) tagged

good_more : (ms : List Message) (m : Message) → good ms ++ Ok m ∷ [] ≡ good (ms ++ m ∷ [])
good_more [] m = refl
good_more (x ∷ ms) m = ap (λ l. Ok x ∷ l) (good_more ms m)

asked_more : (turns more : List Turn) → asked_in (turns ++ more) ≡ asked_in turns ++ asked_in more
asked_more [] more = refl
asked_more (Asks a ∷ turns) more = ap (λ l. a ∷ l) (asked_more turns more)
asked_more (HearsTurn k e ∷ turns) more = asked_more turns more

observed_more : (turns more : List Turn) → observed_in (turns ++ more) ≡ observed_in turns ++ observed_in more
observed_more [] more = refl
observed_more (Asks a ∷ turns) more = observed_more turns more
observed_more (HearsTurn k e ∷ turns) more = ap (λ l. k ∷ l) (observed_more turns more)

requests_more : (rs more : List Asked) → requests_in (rs ++ more) ≡ requests_in rs ++ requests_in more
requests_more [] more = refl
requests_more (a ∷ rs) more = ap (λ l. a.request ∷ l) (requests_more rs more)

one_turn : (r : Option Request) (n : ℕ) → requests_in (asked_in (turns_of r n)) ≡ option_to_list r
one_turn None n = refl
one_turn (Some r) n = refl

none_observed : (r : Option Request) (n : ℕ) → observed_in (turns_of r n) ≡ []
none_observed None n = refl
none_observed (Some r) n = refl

requests_pushed : (l : List ClientMessage) (m : ClientMessage) → requests_of (l ++ m ∷ []) ≡ requests_of l ++ option_to_list (request_of m)
requests_pushed l m = flat_map-append (λ x. option_to_list (request_of x)) l (m ∷ []) ∙ ap (λ r. requests_of l ++ r) (flat_map-cons (λ x. option_to_list (request_of x)) m [] ∙ append-nil (option_to_list (request_of m)))

kinds_more : (ms : List Message) (m : Message) → map kind_of (ms ++ m ∷ []) ≡ map kind_of ms ++ kind_of m ∷ []
kinds_more [] m = refl
kinds_more (x ∷ ms) m = ap (λ l. kind_of x ∷ l) (kinds_more ms m)

secrets_still : (l : List ClientMessage) (m : ClientMessage) → is_secret m ≡ false → secrets_of (l ++ m ∷ []) ≡ secrets_of l
secrets_still l m plain = filter-append is_secret l (m ∷ []) ∙ ap (λ ms. secrets_of l ++ ms) (cond-false (is_secret m) (m ∷ []) [] plain) ∙ append-nil (secrets_of l)

opened_replied : (l : List ClientMessage) (reply : Option ClientMessage) → is_opened l ≡ true → is_opened (l ++ option_to_list reply) ≡ true
opened_replied l None e = ap is_opened (append-nil l) ∙ e
opened_replied l (Some m) e = opened_still l m e

-- ---- the reply to a message

module _ {ways : Ways} {encrypted : Bool} where
  reply_secret : (asked : Asking) (s after : State) (m : ClientMessage) → LogsOn ways encrypted asked (Some m) s after → is_secret m ≡ true
  reply_secret asked s after m (ByCleartext password e) = refl
  reply_secret asked s after m (ByMd5 who e) = refl
  reply_secret asked s after m (ScramBegins b e lists safe) = refl
  reply_secret asked s after m (ScramGoesOn b answer shown e many replies) = refl

  reply_tagged : (asked : Asking) (s after : State) (m : ClientMessage) → LogsOn ways encrypted asked (Some m) s after → tag_of m ≢ None
  reply_tagged asked s after m (ByCleartext password e) = λ none. cc
  reply_tagged asked s after m (ByMd5 who e) = λ none. cc
  reply_tagged asked s after m (ScramBegins b e lists safe) = λ none. cc
  reply_tagged asked s after m (ScramGoesOn b answer shown e many replies) = λ none. cc

  -- a server gives no answer of its own to it
  reply_unasked : (asked : Asking) (s after : State) (m : ClientMessage) → LogsOn ways encrypted asked (Some m) s after → request_of m ≡ None
  reply_unasked asked s after m (ByCleartext password e) = refl
  reply_unasked asked s after m (ByMd5 who e) = refl
  reply_unasked asked s after m (ScramBegins b e lists safe) = refl
  reply_unasked asked s after m (ScramGoesOn b answer shown e many replies) = refl

  -- it was written, if there is one
  replied : (asked : Asking) (s after : State) (l : List ClientMessage) (reply : Option ClientMessage) (sent out grown : List ℕ) → is_opened l ≡ true → LogsOn ways encrypted asked reply s after → AddsReply reply out grown
      → ClientRun (flat_map kinds_of l) l (sent ++ out) → ClientRun (flat_map kinds_of (l ++ option_to_list reply)) (l ++ option_to_list reply) (sent ++ grown)
  replied asked s after l None sent out grown opened logs adds run =
      subst (λ (x : List ClientMessage). ClientRun (flat_map kinds_of x) x (sent ++ grown)) (sym (append-nil l)) (subst (λ b. ClientRun (flat_map kinds_of l) l (sent ++ b)) (sym adds) run)
  replied asked s after l (Some m) sent out grown opened logs adds run = run_one l m sent out grown run (tagged_may l m opened (reply_tagged asked s after m logs)) adds

  secrets_replied : (asked : Asking) (s after : State) (l : List ClientMessage) (reply : Option ClientMessage) → LogsOn ways encrypted asked reply s after → secrets_of (l ++ option_to_list reply) ≡ secrets_of l ++ option_to_list reply
  secrets_replied asked s after l None logs = ap secrets_of (append-nil l) ∙ sym (append-nil (secrets_of l))
  secrets_replied asked s after l (Some m) logs = filter-append is_secret l (m ∷ []) ∙ ap (λ ms. secrets_of l ++ ms) (cond-true (is_secret m) (m ∷ []) [] (reply_secret asked s after m logs))

  requests_replied : (asked : Asking) (s after : State) (l : List ClientMessage) (reply : Option ClientMessage) → LogsOn ways encrypted asked reply s after → requests_of (l ++ option_to_list reply) ≡ requests_of l
  requests_replied asked s after l None logs = ap requests_of (append-nil l)
  requests_replied asked s after l (Some m) logs = requests_pushed l m ∙ ap (λ r. requests_of l ++ option_to_list r) (reply_unasked asked s after m logs) ∙ append-nil (requests_of l)

-- ---- one message more

talks_asked : (ways : Ways) (gave : List ClientMessage) (observed : List Message) (turns : List Turn) (t : Talk) (s : State) (r : Option Request) (name : ℕ) → Talks ways gave observed turns t s
    → Talks ways gave observed (turns ++ turns_of r name) (asked_of r name t) s
talks_asked ways gave observed turns t s None name p = subst (λ ts. Talks ways gave observed ts t s) (sym (append-nil turns)) p
talks_asked ways gave observed turns t s (Some r) name p = AsksOne (record { request = r; name = name }) p

stands_now : (ways : Ways) (encrypted : Bool) (s : State) (l : Login) → Stands ways encrypted s l → Stands ways l.encrypted s l
stands_now ways encrypted s l h = record { phase = h.phase; exchange = h.exchange; md5 = h.md5; cleartext = h.cleartext; none = h.none; least = h.least; channel = refl }

-- ---- the version that is spoken

abbrev Speaks : Shown → Type 0
Speaks c = SpeaksAt c.phase c.offered.versions c.server.state.version

speaks_on : (p : ConnectionPhase) → p ≡ Started → (done : Bool) (before : Option ProtocolVersion) (o : Offered) (m : Message) → IsTimely done before o m → SpeaksAt p o.versions before → SpeaksAt p o.versions (newer_version before (version_in m))
speaks_on Started e done before o m timely speaks = spoken_after done before o m timely speaks
speaks_on p e done before o m timely speaks = absurd cc

speaks_first : (p : ConnectionPhase) → p ≡ Opening → (asked was : Versions) (before : Option ProtocolVersion) → SpeaksAt p was before → is_admitted asked (spoken asked before) ≡ true
speaks_first Opening e asked was before none = subst (λ b. is_admitted asked (spoken asked b) ≡ true) (sym none) (packet_spoken asked)
speaks_first p e asked was before speaks = absurd cc

speaks_not : (p : ConnectionPhase) → p ≡ Opening → (asked : Versions) (before : Option ProtocolVersion) → SpeaksAt p asked before → before ≡ None
speaks_not Opening e asked before none = none
speaks_not p e asked before speaks = absurd cc

speaks_unless : (p : ConnectionPhase) → p ≡ Encrypting → (asked : Versions) (before : Option ProtocolVersion) → SpeaksAt p asked before → before ≡ None
speaks_unless Encrypting e asked before none = none
speaks_unless p e asked before speaks = absurd cc

pub speaks_over : (p : ConnectionPhase) (asked : Versions) (before : Option ProtocolVersion) → SpeaksAt p asked before → is_admitted asked (spoken asked before) ≡ true
speaks_over Opening asked before none = subst (λ b. is_admitted asked (spoken asked b) ≡ true) (sym none) (packet_spoken asked)
speaks_over Encrypting asked before none = subst (λ b. is_admitted asked (spoken asked b) ≡ true) (sym none) (packet_spoken asked)
speaks_over Started asked before speaks = speaks
speaks_over OverPhase asked before speaks = speaks

pub speaks_3_2 : (asked : Versions) (v : ProtocolVersion) → asked ≡ Only3_2 → is_admitted asked v ≡ true → v ≡ V3_2
speaks_3_2 Only3_2 V3_2 e is = refl
speaks_3_2 asked v e is = absurd cc

pub wrote : (ways : Ways) (h : History) (old new : Shown) (m : ClientMessage) (name : ℕ) → MayCome m (is_opened h.written) → is_secret m ≡ false
    → IsOpenedAt new.phase (is_opened (h.written ++ m ∷ [])) → Added m old.out new.out
    → new.incoming ≡ old.incoming → new.talk ≡ asked_of (request_of m) name old.talk → new.login ≡ old.login → new.server ≡ old.server
    → AreNamed (h.turns ++ turns_of (request_of m) name) new.names (h.written ++ m ∷ []) → Speaks new
    → Known ways h old → Known ways (and_wrote m name h) new
wrote ways h old new m name may plain opened added incoming talk login server named speaks k =
    let turns = h.turns ++ turns_of (request_of m) name in
    record {
      run = run_one h.written m h.sent old.out new.out k.run may added;
      opened = opened;
      read = subst (λ b. Frames h.received (good h.observed) b) (sym incoming) k.read;
      state = k.state;
      talks =
          subst (λ (t : Talk). Talks ways (secrets_of (h.written ++ m ∷ [])) h.observed turns t k.state) (sym talk)
          (subst (λ (ms : List ClientMessage). Talks ways ms h.observed turns (asked_of (request_of m) name old.talk) k.state) (sym (secrets_still h.written m plain))
          (talks_asked ways (secrets_of h.written) h.observed h.turns old.talk k.state (request_of m) name k.talks));
      stands = subst (λ (l : Login). Stands ways l.encrypted k.state l) (sym login) k.stands;
      asked =
          ap requests_in (asked_more h.turns (turns_of (request_of m) name)) ∙ requests_more (asked_in h.turns) (asked_in (turns_of (request_of m) name))
          ∙ ap (λ r. requests_in (asked_in h.turns) ++ r) (one_turn (request_of m) name) ∙ ap (λ r. r ++ option_to_list (request_of m)) k.asked ∙ sym (requests_pushed h.written m);
      server = server ∙ k.server;
      named = named;
      speaks = speaks;
    }

pub sent_some : (ways : Ways) (h : History) (old : Shown) (n : ℕ) → Known ways h old → Known ways (and_sent n old h) (dropped n old)
sent_some ways h old n k =
    let bytes : h.sent ++ old.out ≡ (h.sent ++ take n old.out) ++ drop n old.out = ap (λ b. h.sent ++ b) (sym (take-append-drop n old.out)) ∙ sym (append_assoc h.sent (take n old.out) (drop n old.out)) in
    record { run = subst (λ b. ClientRun (flat_map kinds_of h.written) h.written b) bytes k.run; opened = k.opened; read = k.read; state = k.state; talks = k.talks; stands = k.stands; asked = k.asked; server = k.server; named = k.named; speaks = k.speaks }

pub fed_some : (ways : Ways) (h : History) (old : Shown) (piece : List ℕ) → ((bytes : List ℕ) → Frames bytes [] bytes)
    → ((bytes more rest left : List ℕ) (first second : List (Result Message Error)) → Frames bytes first rest → Frames (rest ++ more) second left → Frames (bytes ++ more) (first ++ second) left)
    → Known ways h old → Known ways (and_fed piece h) (fed piece old)
fed_some ways h old piece none go k =
    let frames : Frames (h.received ++ piece) (good h.observed ++ []) (old.incoming ++ piece) = go h.received piece old.incoming (old.incoming ++ piece) (good h.observed) [] k.read (none (old.incoming ++ piece)) in
    record { run = k.run; opened = k.opened; read = subst (λ r. Frames (h.received ++ piece) r (old.incoming ++ piece)) (append-nil (good h.observed)) frames; state = k.state; talks = k.talks; stands = k.stands; asked = k.asked; server = k.server; named = k.named; speaks = k.speaks }

at_started : (p : ConnectionPhase) (b : Bool) → p ≡ Started → IsOpenedAt p b → b ≡ true
at_started p b e opened = subst (λ (q : ConnectionPhase). IsOpenedAt q b) e opened

goes_on_at : (e : Event) → is_end e ≡ false → e ≢ Ended
goes_on_at e on = λ is. let f : true ≡ false = ap is_end (sym is) ∙ on in cc

module _ (ways : Ways) (h : History) (old new : Shown) (rest : List ℕ) (m : Message) (e : Event) where
  -- by a message that was taken, of which this came in the log-in
  logged_by : (k : Known ways h old) (took : Took m (with_incoming rest old) new e) (f : LoggedTo ways old.login.encrypted (asking m) k.state new.login old.out new.out) → old.phase ≡ Started → TakesFrame old.incoming (Ok m) rest
      → ((bytes before after : List ℕ) (results : List (Result Message Error)) (r : Result Message Error) → Frames bytes results before → TakesFrame before r after → Frames bytes (results ++ r ∷ []) after)
      → Known ways (and_observed m e f.logged.reply h) new
  logged_by k took f phase frame next =
      let reply = f.logged.reply in
      let logs = f.logged.logs in
      let opened : is_opened h.written ≡ true = at_started old.phase (is_opened h.written) phase k.opened in
      record {
        run = replied (asking m) k.state f.state h.written reply h.sent old.out new.out opened logs f.logged.adds k.run;
        opened = subst (λ (p : ConnectionPhase). IsOpenedAt p (is_opened (h.written ++ option_to_list reply))) (sym (ap (λ (c : Shown). c.phase) took.is ∙ phase)) (opened_replied h.written reply opened);
        read = subst (λ b. Frames h.received (good (h.observed ++ m ∷ [])) b) (sym (ap (λ (c : Shown). c.incoming) took.is))
            (subst (λ r. Frames h.received r rest) (good_more h.observed m) (next h.received old.incoming rest (good h.observed) (Ok m) k.read frame));
        state = f.state;
        talks = subst (λ (ms : List ClientMessage). Talks ways ms (h.observed ++ m ∷ []) (h.turns ++ HearsTurn (kind_of m) e ∷ []) new.talk f.state) (sym (secrets_replied (asking m) k.state f.state h.written reply logs))
            (HearsOne old.login.encrypted m e took.taken (goes_on_at e took.goes_on) logs k.talks);
        stands = stands_now ways old.login.encrypted f.state new.login f.stands;
        asked = ap requests_in (asked_more h.turns (HearsTurn (kind_of m) e ∷ [])) ∙ ap requests_in (append-nil (asked_in h.turns)) ∙ k.asked ∙ sym (requests_replied (asking m) k.state f.state h.written reply logs);
        server = ap (λ (c : Shown). c.server) took.is ∙ ap (heard m) k.server ∙ sym (said_more nothing_said h.observed m);
        named = named_heard h.turns (kind_of m) e old.names new.names h.written reply (ap (λ (c : Shown). c.names) took.is) k.named;
        speaks = subst Speaks (sym took.is) (speaks_on old.phase phase (done_in old.login.phase) old.server.state.version old.offered m took.due k.speaks);
      }

  pub observed_one : old.phase ≡ Started → TakesFrame old.incoming (Ok m) rest → Took m (with_incoming rest old) new e
      → ((bytes before after : List ℕ) (results : List (Result Message Error)) (r : Result Message Error) → Frames bytes results before → TakesFrame before r after → Frames bytes (results ++ r ∷ []) after)
      → Known ways h old → (reply : Option ClientMessage) × Known ways (and_observed m e reply h) new
  observed_one phase frame took next k =
      let f = took.logged ways old.login.encrypted k.state k.stands in
      (f.logged.reply, logged_by k took f phase frame next)

-- ---- what follows

module _ (ways : Ways) where
  talks_observed : {gave : List ClientMessage} {observed : List Message} {turns : List Turn} {t : Talk} {s : State} → Talks ways gave observed turns t s → observed_in turns ≡ map kind_of observed
  talks_observed Opens = refl
  talks_observed (AsksOne {turns = turns} a p) = observed_more turns (Asks a ∷ []) ∙ append-nil (observed_in turns) ∙ talks_observed p
  talks_observed (HearsOne {observed = observed} {turns = turns} encrypted m e takes on logs p) =
      observed_more turns (HearsTurn (kind_of m) e ∷ []) ∙ ap (λ r. r ++ kind_of m ∷ []) (talks_observed p) ∙ sym (kinds_more observed m)

  done_at : (gave : List ClientMessage) (observed : List Message) (turns : List Turn) (t : Talk) (s : State) → phase_of s ≡ IsDone → Talks ways gave observed turns t s → Talks ways gave observed turns t Done
  done_at gave observed turns t Done e p = p
  done_at gave observed turns t s e p = absurd cc

  pub follows : (h : History) (now : Shown) → ((turns : List Turn) → FollowsTurns start turns → Belong (asked_in turns) (observed_in turns) (reported_in turns))
      → ((gave : List ClientMessage) (observed : List Message) (turns : List Turn) (t : Talk) (s : State) → Talks ways gave observed turns t s → BelongInTurns turns (reported_in turns))
      → ((gave : List ClientMessage) (observed : List Message) (turns : List Turn) (t : Talk) (s : State) (truth : List Event) → Talks ways gave observed turns t s → BelongInTurns turns truth → truth ≡ reported_in turns)
      → ((gave : List ClientMessage) (observed : List Message) (turns : List Turn) (t : Talk) (s : State) → Talks ways gave observed turns t s → AllByRecursion (IsAllowed ways) gave)
      → ((gave : List ClientMessage) (observed : List Message) (turns : List Turn) (t : Talk) → Talks ways gave observed turns t Done → Admitted ways observed gave)
      → Known ways h now → Follows ways h now
  follows h now belongs timely single allowed admitted k =
      let gave = secrets_of h.written in
      record {
        asked = k.asked;
        named = named_all h.turns now.names h.written k.named;
        observed = talks_observed k.talks;
        belong = belongs h.turns (talks_follow ways k.talks);
        in_turns = timely gave h.observed h.turns now.talk k.state k.talks;
        alone = λ truth. single gave h.observed h.turns now.talk k.state truth k.talks;
        allowed = allowed gave h.observed h.turns now.talk k.state k.talks;
        admitted = λ is. admitted gave h.observed h.turns now.talk (done_at gave h.observed h.turns now.talk k.state (sym k.stands.phase ∙ is) k.talks);
        server = ap (λ (s : Said). s.state) k.server ∙ states_follow nothing_said h.observed;
        settings = λ name. ap (λ (s : Said). value_of name s.settings) k.server ∙ values_follow name nothing_said h.observed;
        version = speaks_over now.phase now.offered.versions now.server.state.version k.speaks;
      }

-- ---- the calls

started_at : (p : ConnectionPhase) (q : LoginPhase) (b : Bool) → (logged_in_at p q && b) ≡ true → p ≡ Started
started_at Opening q b e = absurd cc
started_at Encrypting q b e = absurd cc
started_at Started q b e = refl
started_at OverPhase q b e = absurd cc

may_tagged : (b a : Bool) (m : ClientMessage) → may_send b a m ≡ true → tag_of m ≢ None
may_tagged b a (Startup minor parameters) e = absurd cc
may_tagged b a (CancelRequest process_id secret_key) e = absurd cc
may_tagged b a SslRequest e = absurd cc
may_tagged b a GssEncRequest e = absurd cc
may_tagged b a m e = λ none. cc

may_open : (b a : Bool) (m : ClientMessage) → may_send b a m ≡ true → is_secret m ≡ false
may_open b a (PasswordMessage password) e = absurd cc
may_open b a (SaslInitialResponse mechanism response) e = absurd cc
may_open b a (SaslResponse response) e = absurd cc
may_open b a m e = refl

pub sends : (ways : Ways) (h : History) (old new : Shown) (m : ClientMessage) (name : ℕ) → Sent m old new name → Known ways h old → Known ways (and_wrote m name h) new
sends ways h old new m name s k =
    let phase : old.phase ≡ Started = started_at old.phase old.login.phase (may_send (is_copying old.talk) (awaits_data old.talk) m) s.may in
    let may : may_send (is_copying old.talk) (awaits_data old.talk) m ≡ true = (and_parts (is_logged_in old) (may_send (is_copying old.talk) (awaits_data old.talk) m) s.may).1 in
    let opened : is_opened h.written ≡ true = at_started old.phase (is_opened h.written) phase k.opened in
    wrote ways h old new m name (tagged_may h.written m opened (may_tagged (is_copying old.talk) (awaits_data old.talk) m may)) (may_open (is_copying old.talk) (awaits_data old.talk) m may)
    (subst (λ (p : ConnectionPhase). IsOpenedAt p (is_opened (h.written ++ m ∷ []))) (sym (ap (λ (c : Shown). c.phase) s.is ∙ phase)) (opened_still h.written m opened))
    s.added (ap (λ (c : Shown). c.incoming) s.is) (ap (λ (c : Shown). c.talk) s.is ∙ ap (λ n. asked_of (request_of m) n old.talk) (sym s.named)) (ap (λ (c : Shown). c.login) s.is) (ap (λ (c : Shown). c.server) s.is)
    (named_next h.turns old.names new.names name h.written m s.named (ap (λ (c : Shown). c.names) s.is) k.named) (subst Speaks (sym s.is) k.speaks) k

at_opening : (p : ConnectionPhase) (b : Bool) → p ≡ Opening → IsOpenedAt p b → b ≡ false
at_opening p b e opened = subst (λ (q : ConnectionPhase). IsOpenedAt q b) e opened

opened_by : (l : List ClientMessage) (m : ClientMessage) → is_startup m ≡ true → is_opened (l ++ m ∷ []) ≡ true
opened_by l m e = opened_more l m ∙ ap (λ (b : Bool). if b then true else is_opened l) e

pub starts : (ways : Ways) (h : History) (old new : Shown) (asked : Versions) (parameters : List (List ℕ × List ℕ)) (name : ℕ) → IsNamed (packet_of asked parameters) → HasStarted asked (packet_of asked parameters) old new name
    → Known ways h old → Known ways (and_wrote (packet_of asked parameters) name h) new
starts ways h old new asked parameters name named s k =
    let m = packet_of asked parameters in
    let closed : is_opened h.written ≡ false = at_opening old.phase (is_opened h.written) s.phase k.opened in
    wrote ways h old new m name (subst (λ (b : Bool). MayCome m b) (sym closed) (inl tt, named)) refl
    (subst (λ (p : ConnectionPhase). IsOpenedAt p (is_opened (h.written ++ m ∷ []))) (sym (ap (λ (c : Shown). c.phase) s.is)) (opened_by h.written m refl))
    s.added (ap (λ (c : Shown). c.incoming) s.is) (ap (λ (c : Shown). c.talk) s.is ∙ ap (λ n. asked_of (request_of m) n old.talk) (sym s.named)) (ap (λ (c : Shown). c.login) s.is) (ap (λ (c : Shown). c.server) s.is)
    (named_next h.turns old.names new.names name h.written m s.named (ap (λ (c : Shown). c.names) s.is) k.named)
    (subst Speaks (sym s.is) (speaks_first old.phase s.phase asked old.offered.versions old.server.state.version k.speaks)) k

pub asks_encryption : (ways : Ways) (h : History) (old new : Shown) → Wrote Opening Encrypting SslRequest old new → Known ways h old → Known ways (and_wrote SslRequest 0 h) new
asks_encryption ways h old new s k =
    let closed : is_opened h.written ≡ false = at_opening old.phase (is_opened h.written) s.phase k.opened in
    wrote ways h old new SslRequest 0 (subst (λ (b : Bool). MayCome SslRequest b) (sym closed) (inr tt, tt)) refl
    (subst (λ (p : ConnectionPhase). IsOpenedAt p (is_opened (h.written ++ SslRequest ∷ []))) (sym (ap (λ (c : Shown). c.phase) s.is)) (opened_more h.written SslRequest ∙ closed))
    s.added (ap (λ (c : Shown). c.incoming) s.is) (ap (λ (c : Shown). c.talk) s.is) (ap (λ (c : Shown). c.login) s.is) (ap (λ (c : Shown). c.server) s.is)
    (named_still h.turns old.names new.names 0 h.written SslRequest refl (ap (λ (c : Shown). c.names) s.is) k.named)
    (subst Speaks (sym s.is) (speaks_not old.phase s.phase old.offered.versions old.server.state.version k.speaks)) k

pub ends : (ways : Ways) (h : History) (old new : Shown) → Wrote Started OverPhase Terminate old new → Known ways h old → Known ways (and_wrote Terminate 0 h) new
ends ways h old new s k =
    let opened : is_opened h.written ≡ true = at_started old.phase (is_opened h.written) s.phase k.opened in
    wrote ways h old new Terminate 0 (tagged_may h.written Terminate opened (λ none. cc)) refl
    (subst (λ (p : ConnectionPhase). IsOpenedAt p (is_opened (h.written ++ Terminate ∷ []))) (sym (ap (λ (c : Shown). c.phase) s.is)) tt)
    s.added (ap (λ (c : Shown). c.incoming) s.is) (ap (λ (c : Shown). c.talk) s.is) (ap (λ (c : Shown). c.login) s.is) (ap (λ (c : Shown). c.server) s.is)
    (named_still h.turns old.names new.names 0 h.written Terminate refl (ap (λ (c : Shown). c.names) s.is) k.named)
    (subst Speaks (sym s.is) (speaks_over old.phase old.offered.versions old.server.state.version k.speaks)) k

at_encrypting : (p : ConnectionPhase) (b : Bool) → p ≡ Encrypting → IsOpenedAt p b → b ≡ false
at_encrypting p b e opened = subst (λ (q : ConnectionPhase). IsOpenedAt q b) e opened

stands_told : (ways : Ways) (encrypts : Bool) (s : State) (l : Login) → Stands ways l.encrypted s l → Stands ways (l.encrypted || encrypts) s (encrypted_by encrypts l)
stands_told ways encrypts s l h = record { phase = h.phase; exchange = h.exchange; md5 = h.md5; cleartext = h.cleartext; none = h.none; least = h.least; channel = refl }

pub answered : (ways : Ways) (h : History) (old : Shown) (encrypts : Bool) → old.phase ≡ Encrypting → Known ways h old → Known ways h (told encrypts old)
answered ways h old encrypts phase k = record { run = k.run; opened = at_encrypting old.phase (is_opened h.written) phase k.opened; read = k.read; state = k.state; talks = k.talks; stands = stands_told ways encrypts k.state old.login k.stands; asked = k.asked; server = k.server; named = k.named; speaks = speaks_unless old.phase phase old.offered.versions old.server.state.version k.speaks }

pub stopped : (ways : Ways) (h : History) (old : Shown) → Known ways h old → Known ways h (in_phase OverPhase old)
stopped ways h old k = record { run = k.run; opened = tt; read = k.read; state = k.state; talks = k.talks; stands = k.stands; asked = k.asked; server = k.server; named = k.named; speaks = speaks_over old.phase old.offered.versions old.server.state.version k.speaks }

pub begins : (login : Login) (limit : ℕ) → login.phase ≡ AwaitsOfferThere → ((bytes : List ℕ) → Frames bytes [] bytes) → Known (ways_in login) no_history (begun login limit)
begins login limit at none = record {
  run = nothing;
  opened = refl;
  read = none [];
  state = AwaitsOffer;
  talks = Opens;
  stands = record { phase = at; exchange = refl; md5 = refl; cleartext = refl; none = refl; least = refl; channel = refl };
  asked = refl;
  server = refl;
  named = λ small. (omega arith, omega arith);
  speaks = refl;
}
