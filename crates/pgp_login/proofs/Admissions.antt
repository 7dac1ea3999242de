-- By which way a client is let in, and what it gave away for that.
use Rattle.pgp_login.proofs.Common.{◌≡◌, ℕ, Bool, List, [], ◌∷◌, ◌++◌, Option, Some, None, refl, sym, ap, subst, ◌∙◌, inl, inr, option_to_list, Begun, ClientMessage, PasswordMessage, SaslResponse, Replies, initial, md5_answer}
use Rattle.std.proofs.lemmas.List.{append-nil}
use Rattle.std.specs.List.{AllByRecursion}
use Rattle.pgp_auth.specs.ScramRefusal.{Verifies}
use Rattle.pgp_frontend.proofs.ClientRuns.{each_push}
use Rattle.pgp_message.specs.BackendMessage.{Message, Authentication, AuthenticationOk, AuthenticationCleartextPassword, AuthenticationMd5Password, AuthenticationSasl, AuthenticationSaslContinue, AuthenticationSaslFinal}
use Rattle.pgp_login.specs.Exchange.{mechanism}
use Rattle.pgp_login.specs.Machine.{Asking, Cleartext, Md5, Sasl, First, Final, Welcome, Lists, LogsOn, NothingAsked, ByCleartext, ByMd5, ScramBegins, ScramGoesOn, ScramEnds, LoggedOn, Welcomed, Trusted, State, AwaitsOffer, AwaitsFirst, AwaitsFinal, AwaitsOk, Done, Failed, Ways, asking, phase_of}
use Rattle.pgp_login.specs.Login.{Kept, Simulates}
use Rattle.pgp_login.specs.declared.login.LoginPhase.TheVariants.{Done as IsDone}
use Rattle.pgp_login.specs.Session.{Heard, Known, Played, Admitted, ByNone, ByPassword, ByHash, BySignature, IsAllowed, Plays, Begins, Hears, ReceivedAmong, NoneWanted, OneReceived, OtherReceived, admission, asks_hash, asks_password, challenge, offer, signature}

IsAskedBy : Message → Asking → Type 0
IsAskedBy m Cleartext = m ≡ asks_password
IsAskedBy m (Md5 salt) = m ≡ asks_hash salt
IsAskedBy m (Sasl mechanisms) = m ≡ offer mechanisms
IsAskedBy m (First text) = m ≡ challenge text
IsAskedBy m (Final text) = m ≡ signature text
IsAskedBy m Welcome = m ≡ admission
IsAskedBy m asked = Unit {0}

asked_by : (m : Message) → IsAskedBy m (asking m)
unfolding IsAskedBy
asked_by (Authentication AuthenticationCleartextPassword) = refl
asked_by (Authentication (AuthenticationMd5Password salt)) = refl
asked_by (Authentication (AuthenticationSasl mechanisms)) = refl
asked_by (Authentication (AuthenticationSaslContinue text)) = refl
asked_by (Authentication (AuthenticationSaslFinal text)) = refl
asked_by (Authentication AuthenticationOk) = refl
asked_by m = tt

module _ (w : Ways) where
  record Offered (observed : List Message) (gave : List ClientMessage) : Type 0 where
    begun : Begun
    mechanisms : List ℕ
    from : w.scram ≡ Some begun
    offers : Lists (mechanism begun) mechanisms
    received : ReceivedAmong (offer mechanisms ∷ []) observed
    given : gave ≡ initial begun ∷ []

  record Answered (observed : List Message) (gave : List ClientMessage) (shown : List ℕ) : Type 0 where
    begun : Begun
    mechanisms : List ℕ
    first : List ℕ
    proof : List ℕ
    from : w.scram ≡ Some begun
    offers : Lists (mechanism begun) mechanisms
    received : ReceivedAmong (offer mechanisms ∷ challenge first ∷ []) observed
    replies : Replies begun first proof shown
    given : gave ≡ initial begun ∷ SaslResponse proof ∷ []

  record Verified (observed : List Message) (gave : List ClientMessage) : Type 0 where
    begun : Begun
    mechanisms : List ℕ
    first : List ℕ
    final : List ℕ
    proof : List ℕ
    shown : List ℕ
    from : w.scram ≡ Some begun
    offers : Lists (mechanism begun) mechanisms
    received : ReceivedAmong (offer mechanisms ∷ challenge first ∷ signature final ∷ []) observed
    replies : Replies begun first proof shown
    verifies : Verifies shown final
    given : gave ≡ initial begun ∷ SaslResponse proof ∷ []

  -- the last answer was given, and the welcome is awaited
  data Awaits (observed : List Message) : List ClientMessage → Type 0 where
    GavePassword : (password : List ℕ) → w.cleartext ≡ Some password → ReceivedAmong (asks_password ∷ []) observed → Awaits observed (PasswordMessage password ∷ [])
    GaveHash : (who : List ℕ × List ℕ) (salt : List ℕ) → w.md5 ≡ Some who → ReceivedAmong (asks_hash salt ∷ []) observed → Awaits observed (PasswordMessage (md5_answer who.0 who.1 salt) ∷ [])
    SawSignature : {gave : List ClientMessage} → Verified observed gave → Awaits observed gave

  -- what a state says of the messages that came and of those that were given
  abbrev Stands : List Message → List ClientMessage → State → Type 0
  Stands observed gave AwaitsOffer = gave ≡ []
  Stands observed gave AwaitsFirst = Offered observed gave
  Stands observed gave (AwaitsFinal shown) = Answered observed gave shown
  Stands observed gave AwaitsOk = Awaits observed gave
  Stands observed gave Done = Admitted w observed gave
  Stands observed gave Failed = ⊥

  module _ (observed : List Message) (gave : List ClientMessage) (m : Message) where
    admitted_more : {given : List ClientMessage} → Admitted w observed given → Admitted w (observed ++ m ∷ []) given
    admitted_more (ByNone e r) = ByNone e (OtherReceived m r)
    admitted_more (ByPassword password e r) = ByPassword password e (OtherReceived m r)
    admitted_more (ByHash who salt e r) = ByHash who salt e (OtherReceived m r)
    admitted_more (BySignature b proof e s) =
        BySignature b proof e (record { mechanisms = s.mechanisms; first = s.first; final = s.final; shown = s.shown; offers = s.offers; received = OtherReceived m s.received; replies = s.replies; verifies = s.verifies })

    awaits_more : {given : List ClientMessage} → Awaits observed given → Awaits (observed ++ m ∷ []) given
    awaits_more (GavePassword password e r) = GavePassword password e (OtherReceived m r)
    awaits_more (GaveHash who salt e r) = GaveHash who salt e (OtherReceived m r)
    awaits_more (SawSignature v) = SawSignature (record {
      begun = v.begun;
      mechanisms = v.mechanisms;
      first = v.first;
      final = v.final;
      proof = v.proof;
      shown = v.shown;
      from = v.from;
      offers = v.offers;
      received = OtherReceived m v.received;
      replies = v.replies;
      verifies = v.verifies;
      given = v.given;
    })

    stands_more : (s : State) → Stands observed gave s → Stands (observed ++ m ∷ []) gave s
    stands_more AwaitsOffer h = h
    stands_more AwaitsFirst h = record { begun = h.begun; mechanisms = h.mechanisms; from = h.from; offers = h.offers; received = OtherReceived m h.received; given = h.given }
    stands_more (AwaitsFinal shown) h = record {
      begun = h.begun;
      mechanisms = h.mechanisms;
      first = h.first;
      proof = h.proof;
      from = h.from;
      offers = h.offers;
      received = OtherReceived m h.received;
      replies = h.replies;
      given = h.given;
    }
    stands_more AwaitsOk h = awaits_more h
    stands_more Done h = admitted_more h
    stands_more Failed h = h

    received_more : {wanted : List Message} (x : Message) → m ≡ x → ReceivedAmong wanted observed → ReceivedAmong (wanted ++ x ∷ []) (observed ++ m ∷ [])
    received_more {wanted} x e a = subst (λ (y : Message). ReceivedAmong (wanted ++ y ∷ []) (observed ++ m ∷ [])) e (OneReceived m a)

    same_begun : (x y : Begun) → w.scram ≡ Some x → w.scram ≡ Some y → x ≡ y
    same_begun x y e f = let both : Some x ≡ Some y = sym e ∙ f in cc

    -- the first reply, after which the log-in gave that alone
    alone : (x : ClientMessage) → gave ≡ [] → gave ++ x ∷ [] ≡ x ∷ []
    alone x e = ap (λ ms. ms ++ x ∷ []) e

    signs : {given : List ClientMessage} → m ≡ admission → Awaits observed given → Admitted w (observed ++ m ∷ []) given
    signs e (GavePassword password is r) = ByPassword password is (received_more admission e r)
    signs e (GaveHash who salt is r) = ByHash who salt is (received_more admission e r)
    signs e (SawSignature v) = subst (λ ms. Admitted w (observed ++ m ∷ []) ms) (sym v.given) (BySignature v.begun v.proof v.from (record {
      mechanisms = v.mechanisms;
      first = v.first;
      final = v.final;
      shown = v.shown;
      offers = v.offers;
      received = received_more admission e v.received;
      replies = v.replies;
      verifies = v.verifies;
    }))

    step : (encrypted : Bool) (asked : Asking) (reply : Option ClientMessage) (s after : State) → IsAskedBy m asked → LogsOn w encrypted asked reply s after → Stands observed gave s → Stands (observed ++ m ∷ []) (gave ++ option_to_list reply) after
    unfolding IsAskedBy
    step encrypted asked reply s after is NothingAsked h = subst (λ ms. Stands (observed ++ m ∷ []) ms s) (sym (append-nil gave)) (stands_more s h)
    step encrypted asked reply s after is (ByCleartext password e) h =
        subst (λ ms. Awaits (observed ++ m ∷ []) ms) (sym (alone (PasswordMessage password) h)) (GavePassword password e (received_more asks_password is NoneWanted))
    step encrypted asked reply s after is (ByMd5 {salt = salt} who e) h =
        subst (λ ms. Awaits (observed ++ m ∷ []) ms) (sym (alone (PasswordMessage (md5_answer who.0 who.1 salt)) h)) (GaveHash who salt e (received_more (asks_hash salt) is NoneWanted))
    step encrypted asked reply s after is (ScramBegins {mechanisms = mechanisms} b e lists stripped) h =
        record { begun = b; mechanisms = mechanisms; from = e; offers = lists; received = received_more (offer mechanisms) is NoneWanted; given = alone (initial b) h }
    step encrypted asked reply s after is (ScramGoesOn {text = text} b answer shown e many replies) h =
        let same : b ≡ h.begun = same_begun b h.begun e h.from in
        record {
          begun = h.begun;
          mechanisms = h.mechanisms;
          first = text;
          proof = answer;
          from = h.from;
          offers = h.offers;
          received = received_more (challenge text) is h.received;
          replies = subst (λ (x : Begun). Replies x text answer shown) same replies;
          given = ap (λ ms. ms ++ SaslResponse answer ∷ []) h.given;
        }
    step encrypted asked reply s after is (ScramEnds {text = text} shown verifies) h = subst (λ ms. Awaits (observed ++ m ∷ []) ms) (sym (append-nil gave)) (SawSignature (record {
      begun = h.begun;
      mechanisms = h.mechanisms;
      first = h.first;
      final = text;
      proof = h.proof;
      shown = shown;
      from = h.from;
      offers = h.offers;
      received = received_more (signature text) is h.received;
      replies = h.replies;
      verifies = verifies;
      given = h.given;
    }))
    step encrypted asked reply s after is Welcomed h = subst (λ ms. Admitted w (observed ++ m ∷ []) ms) (sym (append-nil gave)) (signs is h)
    step encrypted asked reply s after is (Trusted e) h =
        subst (λ ms. Admitted w (observed ++ m ∷ []) ms) (sym (append-nil gave)) (subst (λ ms. Admitted w (observed ++ m ∷ []) ms) (sym h) (ByNone e (received_more admission is NoneWanted)))

    reply_allowed : (encrypted : Bool) (asked : Asking) (x : ClientMessage) (s after : State) → LogsOn w encrypted asked (Some x) s after → IsAllowed w x
    reply_allowed encrypted asked x s after (ByCleartext password e) = inl e
    reply_allowed encrypted asked x s after (ByMd5 {salt = salt} who e) = inr (who, e, salt, refl)
    reply_allowed encrypted asked x s after (ScramBegins b e lists stripped) = (b, e, refl)
    reply_allowed encrypted asked x s after (ScramGoesOn {text = text} b answer shown e many replies) = (b, e, text, shown, replies)

    all_allowed : (encrypted : Bool) (asked : Asking) (reply : Option ClientMessage) (s after : State) → LogsOn w encrypted asked reply s after → AllByRecursion (IsAllowed w) gave → AllByRecursion (IsAllowed w) (gave ++ option_to_list reply)
    all_allowed encrypted asked None s after logs all = subst (λ (ms : List ClientMessage). AllByRecursion (IsAllowed w) ms) (sym (append-nil gave)) all
    all_allowed encrypted asked (Some x) s after logs all = each_push (IsAllowed w) gave x all (reply_allowed encrypted asked x s after logs)

  plays_stand : {gave : List ClientMessage} {observed : List Message} {s : State} → Plays w gave observed s → Stands observed gave s
  plays_stand Begins = refl
  plays_stand (Hears {gave} {reply} {observed} {s} {after} encrypted m logs p) = step observed gave m encrypted (asking m) reply s after (asked_by m) logs (plays_stand p)

  pub plays_admitted : {gave : List ClientMessage} {observed : List Message} → Plays w gave observed Done → Admitted w observed gave
  plays_admitted p = plays_stand p

  pub plays_allowed : {gave : List ClientMessage} {observed : List Message} {s : State} → Plays w gave observed s → AllByRecursion (IsAllowed w) gave
  plays_allowed Begins = tt
  plays_allowed (Hears {gave} {reply} {observed} {s} {after} encrypted m logs p) = all_allowed observed gave m encrypted (asking m) reply s after logs (plays_allowed p)

  -- ---- what is known of the code's log-in

  module _ (gave : List ClientMessage) (observed : List Message) where
    pub heard : (encrypted : Bool) (m : Message) (old new : Kept) (out grown : List ℕ) → Simulates (asking m) old new out grown → Known w encrypted gave observed old → Heard w encrypted gave observed m new out grown
    heard encrypted m old new out grown sim k =
        let f = sim w encrypted k.state k.stands in
        record { reply = f.logged.reply; adds = f.logged.adds; known = record { state = f.state; plays = Hears encrypted m f.logged.logs k.plays; stands = f.stands } }

    pub played : (encrypted : Bool) (m : Message) (old new : State) (out grown : List ℕ) → LoggedOn w encrypted (asking m) old new out grown → Plays w gave observed old → Played w gave observed m new out grown
    played encrypted m old new out grown l p = record { reply = l.reply; adds = l.adds; plays = Hears encrypted m l.logs p }

    done_at : (s : State) → phase_of s ≡ IsDone → Plays w gave observed s → Admitted w observed gave
    done_at Done e p = plays_admitted p
    done_at s e p = absurd cc

    pub done : (encrypted : Bool) (l : Kept) → Known w encrypted gave observed l → l.phase ≡ IsDone → Admitted w observed gave
    done encrypted l k is = done_at k.state (sym k.stands.phase ∙ is) k.plays
