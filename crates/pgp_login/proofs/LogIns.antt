-- What a log-in took, as a step of the machine.
use Rattle.pgp_login.proofs.Common.{◌≡◌, ℕ, Bool, true, false, List, Option, Some, None, Result, Ok, Err, refl, sym, ap, subst, ◌∙◌, inl, inr, ◌⊎◌, ◌<◌, length, Error, Begun, ClientMessage, PasswordMessage, SaslResponse, md5_answer, AddsReply, Begins, Seen, Unsent, initial, LoginError}
use Rattle.std.specs.Prelude.{IfErr, OnOk, option_map}
use Rattle.pgp_base.specs.Cause.{Wants}
use Rattle.pgp_base.specs.Held.{Held, items_held}
use Rattle.pgp_base.specs.declared.error.Error.TheVariants.{OutOfMemory}
use Rattle.pgp_base.proofs.Parts.{lengthened_by}
use Rattle.pgp_frontend.specs.Payload.{WritesMessage, bytes_of, cause}
use Rattle.pgp_auth.specs.ScramClient.{NotShown}
use Rattle.pgp_auth.specs.ScramRefusal.{AsksFewer, Verifies}
use Rattle.pgp_login.proofs.Exchanges.{not_replied_so, unbegun_so}
use Rattle.pgp_login.specs.Exchange.{NoneAwaited, NotVerified, Shows, Unbegun, UnsentAs, bound_of, is_bound, mechanism_by}
use Rattle.pgp_login.specs.Fault.{Fault, fault}
use Rattle.pgp_login.specs.declared.fault.LoginError.TheVariants as code
use Rattle.pgp_login.specs.Machine.{Asking, Nothing, Cleartext, Md5, Sasl, First, Final, Welcome, Other, Lists, IsStripped, LogsOn, NothingAsked, ByCleartext, ByMd5, ScramBegins, ScramGoesOn, ScramEnds, Welcomed, Trusted, State, Ways, Declines, NotDue, NoCleartext, CleartextUnsent, NoMd5, Md5Unsent, NoScram, LacksMechanism, MayBeStripped, NotBegun, FewRounds, NoExchange, NotAnswered, NotSigned, NotTrusted, IsOther, admitted, is_due, phase_of}
use Rattle.pgp_login.specs.Machine as machine
use Rattle.pgp_login.specs.Login.{AnswersFirst, AsksCleartext, AsksMd5, AsksSasl, AsksSaslOf, CountsFirst, DeclinesSo, Follows, HasExchange, Hears, HearsDue, Kept, Puts, RepliesBy, Simulates, Stands, VerifiesFinal, WelcomesAt, begun_in, awaited_in, goes_on, in_phase}
use Rattle.pgp_login.specs.declared.login.LoginPhase.{LoginPhase}
use Rattle.pgp_login.specs.declared.login.LoginPhase.TheVariants.{AwaitsOffer, AwaitsFirst, AwaitsFinal, AwaitsOk, Done}

-- ---- writing

unsent : (lacks : Type 0) (m : ClientMessage) (old : List ℕ) (n : ℕ) (e : Error) → ((e ≡ OutOfMemory) × Wants (λ (h : Held (Unit {0})) k. lacks × (0 < k)) (items_held old) n) ⊎ (cause m ≡ Some e) → Unsent lacks m e
unsent lacks m old n e (inl w) = inl (w.0, w.1.refused.0)
unsent lacks m old n e (inr c) = inr c

-- what a writer did
pub puts : (lacks : Type 0) (m : ClientMessage) (old new : List ℕ) (r : Result (Unit {0}) Error) → WritesMessage m (λ (h : Held (Unit {0})) k. lacks × (0 < k)) (items_held old) (items_held new) r → Puts lacks m old new r
puts lacks m old new (Ok done) w = record { none = w.1.0; in_range = w.0; bytes = lengthened_by old new (bytes_of m) w.1.1 }
puts lacks m old new (Err e) w = unsent lacks m old (length (bytes_of m)) e w.1.0

-- ---- what was taken

some_in : (x : Seen) (s : Option Seen) → s ≡ Some x → begun_in s ≡ x.begun
some_in x s e = ap begun_in e

module _ (A : Type 0) (lacks : Type 0) (w : Ways) (encrypted : Bool) (l after : Kept) (out grown : List ℕ) where
  -- the log-in stands for the next state, with its ways as before
  stands_then : (s next : State) → Stands w encrypted s l → HasExchange next w.scram l.scram → Stands w encrypted next (in_phase (phase_of next) l)
  stands_then s next h x = record { phase = refl; exchange = x; md5 = h.md5; cleartext = h.cleartext; none = h.none; least = h.least; channel = h.channel }

  stands_with : (s next : State) (y : Seen) → Stands w encrypted s l → HasExchange next w.scram (Some y) → Stands w encrypted next (goes_on (phase_of next) y l)
  stands_with s next y h x = record { phase = refl; exchange = x; md5 = h.md5; cleartext = h.cleartext; none = h.none; least = h.least; channel = h.channel }

  follow : (s next : State) (asked : Asking) (reply : Option ClientMessage) (then : Kept) → LogsOn w encrypted asked reply s next → AddsReply reply out grown → after ≡ then → Stands w encrypted next then → Follows w encrypted asked s after out grown
  follow s next asked reply then logs adds is stands =
      record { state = next; logged = record { reply = reply; logs = logs; adds = adds }; stands = subst (λ (k : Kept). Stands w encrypted next k) (sym is) stands }

  by_cleartext : (c : Option (List ℕ)) → l.cleartext ≡ c → Stands w encrypted machine.AwaitsOffer l → AsksCleartext {A = A} lacks c l after out grown (Ok tt) → Follows w encrypted Cleartext machine.AwaitsOffer after out grown
  by_cleartext None e st h = absurd cc
  by_cleartext (Some password) e st h =
      follow machine.AwaitsOffer machine.AwaitsOk Cleartext (Some (PasswordMessage password)) (in_phase AwaitsOk l) (ByCleartext password (sym st.cleartext ∙ e)) h.0 h.1 (stands_then machine.AwaitsOffer machine.AwaitsOk st tt)

  by_md5 : (salt : List ℕ) (c : Option (List ℕ × List ℕ)) → l.md5 ≡ c → Stands w encrypted machine.AwaitsOffer l → AsksMd5 {A = A} lacks c salt l after out grown (Ok tt) → Follows w encrypted (Md5 salt) machine.AwaitsOffer after out grown
  by_md5 salt None e st h = absurd cc
  by_md5 salt (Some who) e st h =
      follow machine.AwaitsOffer machine.AwaitsOk (Md5 salt) (Some (PasswordMessage (md5_answer who.0 who.1 salt))) (in_phase AwaitsOk l) (ByMd5 who (sym st.md5 ∙ e)) h.0 h.1 (stands_then machine.AwaitsOffer machine.AwaitsOk st tt)

  -- the exchange is the one that is admitted
  offered : (x : Seen) (b : Begun) → l.scram ≡ Some x → x.begun ≡ Some b → begun_in l.scram ≡ w.scram → w.scram ≡ Some b
  offered x b e f is = sym is ∙ some_in x l.scram e ∙ f

  by_scram_of : (mechanisms : List ℕ) (x : Seen) (bound : Option Bool) → bound_of x ≡ bound → l.scram ≡ Some x → Stands w encrypted machine.AwaitsOffer l → AsksSaslOf {A = A} lacks bound x mechanisms l after out grown (Ok tt)
      → Follows w encrypted (Sasl mechanisms) machine.AwaitsOffer after out grown
  by_scram_of mechanisms x None is e st h = absurd cc
  by_scram_of mechanisms x (Some bound) is e st h =
      let b = h.2.0 in
      let begun = h.2.1 in
      let both : Some (is_bound b.binding) ≡ Some bound = sym (ap (λ (o : Option Begun). option_map (λ (y : Begun). is_bound y.binding) o) begun) ∙ is in
      let same : bound ≡ is_bound b.binding = cc in
      let lists : Lists (mechanism_by (is_bound b.binding)) mechanisms = subst (λ (c : Bool). Lists (mechanism_by c) mechanisms) same h.0 in
      let not_stripped : IsStripped encrypted b mechanisms → ⊥ = λ s. h.1 (st.channel ∙ s.0, same ∙ s.1, s.2) in
      follow machine.AwaitsOffer machine.AwaitsFirst (Sasl mechanisms) (Some (initial b)) (in_phase AwaitsFirst l) (ScramBegins b (offered x b e begun st.exchange) lists not_stripped) h.2.2 h.3
      (stands_then machine.AwaitsOffer machine.AwaitsFirst st st.exchange)

  by_scram : (mechanisms : List ℕ) (c : Option Seen) → l.scram ≡ c → Stands w encrypted machine.AwaitsOffer l → AsksSasl {A = A} lacks c mechanisms l after out grown (Ok tt) → Follows w encrypted (Sasl mechanisms) machine.AwaitsOffer after out grown
  by_scram mechanisms None e st h = absurd cc
  by_scram mechanisms (Some x) e st h = by_scram_of mechanisms x (bound_of x) refl e st h

  goes_on_by : (text : List ℕ) (c : Option Seen) → l.scram ≡ c → (AsksFewer l.least text → ⊥) → Stands w encrypted machine.AwaitsFirst l → AnswersFirst {A = A} lacks c text l after out grown (Ok tt) → Follows w encrypted (First text) machine.AwaitsFirst after out grown
  goes_on_by text None e many st h = absurd cc
  goes_on_by text (Some x) e many st h =
      let y = h.0 in
      let said = h.1 in
      follow machine.AwaitsFirst (machine.AwaitsFinal said.2) (First text) (Some (SaslResponse said.1)) (goes_on AwaitsFinal y l)
      (ScramGoesOn said.0 said.1 said.2 (offered x said.0 e said.3 st.exchange) (λ fewer. many (subst (λ n. AsksFewer n text) (sym st.least) fewer)) said.4) said.6 h.2
      (stands_with machine.AwaitsFirst (machine.AwaitsFinal said.2) y st said.5)

  counts_by : (text : List ℕ) → Stands w encrypted machine.AwaitsFirst l → CountsFirst {A = A} lacks text l after out grown (Ok tt) → Follows w encrypted (First text) machine.AwaitsFirst after out grown
  counts_by text st (inl fewer) = let e = fewer.1 in cc
  counts_by text st (inr h) = goes_on_by text l.scram refl h.0 st h.1

  ends_by : (text shown : List ℕ) (c : Option Seen) → l.scram ≡ c → grown ≡ out → Stands w encrypted (machine.AwaitsFinal shown) l → VerifiesFinal {A = A} lacks c text l after (Ok tt) → Follows w encrypted (Final text) (machine.AwaitsFinal shown) after out grown
  ends_by text shown None e same st h = absurd cc
  ends_by text shown (Some x) e same st h =
      let both : Some shown ≡ Some h.1.0 = sym st.exchange ∙ (ap awaited_in e ∙ h.1.1) in
      let is : h.1.0 ≡ shown = cc in
      follow (machine.AwaitsFinal shown) machine.AwaitsOk (Final text) None (goes_on AwaitsOk h.0 l)
      (ScramEnds shown (subst (λ (s : List ℕ). Verifies s text) is h.1.2)) same h.2 (stands_with (machine.AwaitsFinal shown) machine.AwaitsOk h.0 st tt)

  welcomed : (b : Bool) → l.none ≡ b → grown ≡ out → Stands w encrypted machine.AwaitsOffer l → WelcomesAt {A = A} AwaitsOffer b l after (Ok tt) → Follows w encrypted Welcome machine.AwaitsOffer after out grown
  welcomed false e same st h = absurd cc
  welcomed true e same st h = follow machine.AwaitsOffer machine.Done Welcome None (in_phase Done l) (Trusted (sym st.none ∙ e)) same h.1 (stands_then machine.AwaitsOffer machine.Done st tt)

  at_phase : (s : State) (asked : Asking) → Stands w encrypted s l → Hears {A = A} lacks asked l after out grown (Ok tt) → HearsDue {A = A} lacks (is_due (phase_of s) asked) asked l after out grown (Ok tt)
  at_phase s asked st h = subst (λ (p : LoginPhase). HearsDue {A = A} lacks (is_due p asked) asked l after out grown (Ok tt)) st.phase h

  hears_at : (s : State) (asked : Asking) → Stands w encrypted s l → HearsDue {A = A} lacks (is_due (phase_of s) asked) asked l after out grown (Ok tt) → Follows w encrypted asked s after out grown
  hears_at s Nothing st h = follow s s Nothing None l NothingAsked h.2 h.1 st
  hears_at machine.AwaitsOffer Cleartext st h = by_cleartext l.cleartext refl st h
  hears_at machine.AwaitsOffer (Md5 salt) st h = by_md5 salt l.md5 refl st h
  hears_at machine.AwaitsOffer (Sasl mechanisms) st h = by_scram mechanisms l.scram refl st h
  hears_at machine.AwaitsFirst (First text) st h = counts_by text st h
  hears_at (machine.AwaitsFinal shown) (Final text) st h = ends_by text shown l.scram refl h.1 st h.0
  hears_at machine.AwaitsOffer Welcome st h = welcomed l.none refl h.1 st (subst (λ (q : LoginPhase). WelcomesAt {A = A} q l.none l after (Ok tt)) st.phase h.0)
  hears_at machine.AwaitsOk Welcome st h =
      let is = subst (λ (q : LoginPhase). WelcomesAt {A = A} q l.none l after (Ok tt)) st.phase h.0 in
      follow machine.AwaitsOk machine.Done Welcome None (in_phase Done l) Welcomed h.1 is.1 (stands_then machine.AwaitsOk machine.Done st tt)
  hears_at machine.AwaitsOffer Other st h = absurd cc
  hears_at s asked st h = absurd cc

-- ---- what was declined

bound_none : (o : Option Begun) → option_map (λ (y : Begun). is_bound y.binding) o ≡ None → o ≡ None
bound_none None e = refl
bound_none (Some b) e = absurd cc

module _ (A : Type 0) (lacks : Type 0) (w : Ways) (encrypted : Bool) (l after : Kept) (out grown : List ℕ) where
  so : (s : State) (asked : Asking) (e d : LoginError A) → e ≡ d → Declines lacks w encrypted s asked (fault d) → Declines lacks w encrypted s asked (fault e)
  so s asked e d is h = subst (λ (x : LoginError A). Declines lacks w encrypted s asked (fault x)) (sym is) h

  abbrev failed : LoginError A → Result (Unit {0}) (LoginError A)
  failed e = Err e

  err_is : (e d : LoginError A) → failed e ≡ failed d → e ≡ d
  err_is e d is = cc

  unsent_as : (m : ClientMessage) (next : Kept) (e : LoginError A) → RepliesBy {A = A} lacks m next after out grown (Err e) → UnsentAs lacks m (fault e)
  unsent_as m next (code.Unwritten e) h = (e, refl, h)
  unsent_as m next e h = absurd h

  no_cleartext : (c : Option (List ℕ)) (e : LoginError A) → l.cleartext ≡ c → Stands w encrypted machine.AwaitsOffer l → AsksCleartext {A = A} lacks c l after out grown (Err e) → Declines lacks w encrypted machine.AwaitsOffer Cleartext (fault e)
  no_cleartext None e is st h = so machine.AwaitsOffer Cleartext e code.NotAdmitted (err_is e code.NotAdmitted h) (NoCleartext (sym st.cleartext ∙ is))
  no_cleartext (Some password) e is st h = CleartextUnsent password (sym st.cleartext ∙ is) (unsent_as (PasswordMessage password) (in_phase AwaitsOk l) e h)

  no_md5 : (salt : List ℕ) (c : Option (List ℕ × List ℕ)) (e : LoginError A) → l.md5 ≡ c → Stands w encrypted machine.AwaitsOffer l → AsksMd5 {A = A} lacks c salt l after out grown (Err e) → Declines lacks w encrypted machine.AwaitsOffer (Md5 salt) (fault e)
  no_md5 salt None e is st h = so machine.AwaitsOffer (Md5 salt) e code.NotAdmitted (err_is e code.NotAdmitted h) (NoMd5 (sym st.md5 ∙ is))
  no_md5 salt (Some who) e is st h = Md5Unsent who (sym st.md5 ∙ is) (unsent_as (PasswordMessage (md5_answer who.0 who.1 salt)) (in_phase AwaitsOk l) e h)

  unbegun_by : (x : Seen) (b : Begun) (e : LoginError A) → x.begun ≡ Some b → x.begun ≡ w.scram → Begins {A = A} lacks x out grown (Err e) → Unbegun lacks (admitted w) (fault e) ⊎ UnsentAs lacks (initial b) (fault e)
  unbegun_by x b e begun known (inl u) = inl (unbegun_so lacks x (admitted w) (fault e) known u)
  unbegun_by x b e begun known (inr u) = let both : Some b ≡ Some u.0 = sym begun ∙ u.1 in let is : u.0 ≡ b = cc in inr (subst (λ (y : Begun). UnsentAs lacks (initial y) (fault e)) is u.2)

  no_scram_with : (mechanisms : List ℕ) (x : Seen) (b : Begun) (bound : Bool) (e : LoginError A) → x.begun ≡ Some b → w.scram ≡ Some b → x.begun ≡ w.scram → bound ≡ is_bound b.binding → l.encrypted ≡ encrypted
      → AsksSaslOf {A = A} lacks (Some bound) x mechanisms l after out grown (Err e) → Declines lacks w encrypted machine.AwaitsOffer (Sasl mechanisms) (fault e)
  no_scram_with mechanisms x b bound e begun from known same channel (inl h) =
      so machine.AwaitsOffer (Sasl mechanisms) e code.NotOffered h.0 (LacksMechanism b from (λ lists. h.1 (subst (λ (c : Bool). Lists (mechanism_by c) mechanisms) (sym same) lists)))
  no_scram_with mechanisms x b bound e begun from known same channel (inr (inl h)) =
      so machine.AwaitsOffer (Sasl mechanisms) e code.NotAdmitted h.0
      (MayBeStripped b from (subst (λ (c : Bool). Lists (mechanism_by c) mechanisms) same h.1) (sym channel ∙ h.2.0, sym same ∙ h.2.1, h.2.2))
  no_scram_with mechanisms x b bound e begun from known same channel (inr (inr h)) =
      NotBegun b from (subst (λ (c : Bool). Lists (mechanism_by c) mechanisms) same h.0) (λ s. h.1 (channel ∙ s.0, same ∙ s.1, s.2)) (unbegun_by x b e begun known h.2)

  no_scram_by : (mechanisms : List ℕ) (x : Seen) (o : Option Begun) (bound : Bool) (e : LoginError A) → x.begun ≡ o → bound_of x ≡ Some bound → x.begun ≡ w.scram → l.encrypted ≡ encrypted
      → AsksSaslOf {A = A} lacks (Some bound) x mechanisms l after out grown (Err e) → Declines lacks w encrypted machine.AwaitsOffer (Sasl mechanisms) (fault e)
  no_scram_by mechanisms x None bound e begun is known channel h =
      let no : None ≡ Some bound = sym (ap (λ (o : Option Begun). option_map (λ (y : Begun). is_bound y.binding) o) begun) ∙ is in cc
  no_scram_by mechanisms x (Some b) bound e begun is known channel h =
      let both : Some (is_bound b.binding) ≡ Some bound = sym (ap (λ (o : Option Begun). option_map (λ (y : Begun). is_bound y.binding) o) begun) ∙ is in
      let same : bound ≡ is_bound b.binding = cc in
      no_scram_with mechanisms x b bound e begun (sym known ∙ begun) known same channel h

  no_scram_of : (mechanisms : List ℕ) (x : Seen) (bound : Option Bool) (e : LoginError A) → bound_of x ≡ bound → x.begun ≡ w.scram → l.encrypted ≡ encrypted
      → AsksSaslOf {A = A} lacks bound x mechanisms l after out grown (Err e) → Declines lacks w encrypted machine.AwaitsOffer (Sasl mechanisms) (fault e)
  no_scram_of mechanisms x None e is known channel h = so machine.AwaitsOffer (Sasl mechanisms) e code.NotAdmitted (err_is e code.NotAdmitted h) (NoScram (sym known ∙ bound_none x.begun is))
  no_scram_of mechanisms x (Some bound) e is known channel h = no_scram_by mechanisms x x.begun bound e refl is known channel h

  no_scram : (mechanisms : List ℕ) (c : Option Seen) (e : LoginError A) → l.scram ≡ c → Stands w encrypted machine.AwaitsOffer l → AsksSasl {A = A} lacks c mechanisms l after out grown (Err e)
      → Declines lacks w encrypted machine.AwaitsOffer (Sasl mechanisms) (fault e)
  no_scram mechanisms None e is st h = so machine.AwaitsOffer (Sasl mechanisms) e code.NotAdmitted (err_is e code.NotAdmitted h) (NoScram (sym st.exchange ∙ ap begun_in is))
  no_scram mechanisms (Some x) e is st h = no_scram_of mechanisms x (bound_of x) e refl (sym (ap begun_in is) ∙ st.exchange) st.channel h

  no_answer : (text : List ℕ) (c : Option Seen) (e : LoginError A) → l.scram ≡ c → (AsksFewer w.least text → ⊥) → Stands w encrypted machine.AwaitsFirst l → AnswersFirst {A = A} lacks c text l after out grown (Err e)
      → Declines lacks w encrypted machine.AwaitsFirst (First text) (fault e)
  no_answer text None e is many st h = so machine.AwaitsFirst (First text) e code.NotAdmitted (err_is e code.NotAdmitted h) (NoExchange (sym st.exchange ∙ ap begun_in is) many)
  no_answer text (Some x) e is many st h = NotAnswered many (not_replied_so lacks x (admitted w) text (fault e) (sym (ap begun_in is) ∙ st.exchange) h)

  no_first : (text : List ℕ) (e : LoginError A) → Stands w encrypted machine.AwaitsFirst l → CountsFirst {A = A} lacks text l after out grown (Err e) → Declines lacks w encrypted machine.AwaitsFirst (First text) (fault e)
  no_first text e st (inl h) = so machine.AwaitsFirst (First text) e code.TooFewRounds (err_is e code.TooFewRounds h.1) (FewRounds (subst (λ n. AsksFewer n text) st.least h.0))
  no_first text e st (inr h) = no_answer text l.scram e refl (λ fewer. h.0 (subst (λ n. AsksFewer n text) (sym st.least) fewer)) st h.1

  unsigned : (text shown : List ℕ) (x : Seen) (f : Fault) → x.awaited ≡ Some shown → NotVerified lacks x text f → Declines lacks w encrypted (machine.AwaitsFinal shown) (Final text) f
  unsigned text shown x f awaited (NoneAwaited none is) = let no : None ≡ Some shown = sym none ∙ awaited in cc
  unsigned text shown x f awaited (Shows signature r is f_is h) =
      let both : Some signature ≡ Some shown = sym is ∙ awaited in
      let same : signature ≡ shown = cc in
      subst (λ (y : Fault). Declines lacks w encrypted (machine.AwaitsFinal shown) (Final text) y) (sym f_is) (NotSigned shown r (subst (λ (s : List ℕ). NotShown lacks s text r) same h))

  no_end : (text shown : List ℕ) (c : Option Seen) (e : LoginError A) → l.scram ≡ c → Stands w encrypted (machine.AwaitsFinal shown) l → VerifiesFinal {A = A} lacks c text l after (Err e)
      → Declines lacks w encrypted (machine.AwaitsFinal shown) (Final text) (fault e)
  no_end text shown None e is st h = let no : None ≡ Some shown = sym (ap awaited_in is) ∙ st.exchange in cc
  no_end text shown (Some x) e is st h = unsigned text shown x (fault e) (sym (ap awaited_in is) ∙ st.exchange) h

  no_welcome : (b : Bool) (e : LoginError A) → l.none ≡ b → Stands w encrypted machine.AwaitsOffer l → WelcomesAt {A = A} AwaitsOffer b l after (Err e) → Declines lacks w encrypted machine.AwaitsOffer Welcome (fault e)
  no_welcome false e is st h = so machine.AwaitsOffer Welcome e code.NotAdmitted (err_is e code.NotAdmitted h) (NotTrusted (sym st.none ∙ is))
  no_welcome true e is st h = let no = h.0 in absurd cc

  undue : (s : State) (asked : Asking) (e : LoginError A) → is_due (phase_of s) asked ≡ false → failed e ≡ failed code.Undue → Declines lacks w encrypted s asked (fault e)
  undue s asked e is h = so s asked e code.Undue (err_is e code.Undue h) (NotDue is)

  declines_at : (s : State) (asked : Asking) (e : LoginError A) → Stands w encrypted s l → HearsDue {A = A} lacks (is_due (phase_of s) asked) asked l after out grown (Err e) → Declines lacks w encrypted s asked (fault e)
  declines_at s Nothing e st h = let no = h.0 in absurd cc
  declines_at machine.AwaitsOffer Cleartext e st h = no_cleartext l.cleartext e refl st h
  declines_at machine.AwaitsOffer (Md5 salt) e st h = no_md5 salt l.md5 e refl st h
  declines_at machine.AwaitsOffer (Sasl mechanisms) e st h = no_scram mechanisms l.scram e refl st h
  declines_at machine.AwaitsFirst (First text) e st h = no_first text e st h
  declines_at (machine.AwaitsFinal shown) (Final text) e st h = no_end text shown l.scram e refl st h.0
  declines_at machine.AwaitsOffer Welcome e st h = no_welcome l.none e refl st (subst (λ (q : LoginPhase). WelcomesAt {A = A} q l.none l after (Err e)) st.phase h.0)
  declines_at machine.AwaitsOk Welcome e st h = let no = (subst (λ (q : LoginPhase). WelcomesAt {A = A} q l.none l after (Err e)) st.phase h.0).0 in absurd cc
  declines_at machine.AwaitsOffer Other e st h = so machine.AwaitsOffer Other e code.NotAdmitted (err_is e code.NotAdmitted h) IsOther
  declines_at s asked e st h = undue s asked e refl h

module _ (A : Type 0) (lacks : Type 0) (l after : Kept) (out grown : List ℕ) where
  pub declines_if : (asked : Asking) (r : Result (Unit {0}) (LoginError A)) → Hears {A = A} lacks asked l after out grown r → IfErr r (λ e. DeclinesSo lacks asked l (fault e))
  declines_if asked (Ok done) h = tt
  declines_if asked (Err e) h = λ w encrypted s st.
      declines_at A lacks w encrypted l after out grown s asked e st (subst (λ (p : LoginPhase). HearsDue {A = A} lacks (is_due p asked) asked l after out grown (Err e)) st.phase h)

  pub simulates : (asked : Asking) → Hears {A = A} lacks asked l after out grown (Ok tt) → Simulates asked l after out grown
  simulates asked h w encrypted s st = hears_at A lacks w encrypted l after out grown s asked st (at_phase A lacks w encrypted l after out grown s asked st h)

  pub simulates_if : (asked : Asking) (r : Result (Unit {0}) (LoginError A)) → Hears {A = A} lacks asked l after out grown r → OnOk r (Simulates asked l after out grown)
  simulates_if asked (Ok done) h = simulates asked h
  simulates_if asked (Err e) h = tt
