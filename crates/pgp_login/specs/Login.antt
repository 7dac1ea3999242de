-- The code's log-in: what its calls make of it (private), and the state that it stands for.
use Rattle.std.specs.Prelude.{◌≡◌, ◌⊎◌, ℕ, Bool, true, false, List, Option, Some, None, Result, Ok, Err, option_map, codes}
use Rattle.std.specs.Borrow.{Bor}
use Rattle.pgp_base.specs.declared.error.Error.{Error}
use Rattle.pgp_auth.specs.Md5Text.{md5_answer}
use Rattle.pgp_auth.specs.ScramClient.{Begun}
use Rattle.pgp_auth.specs.ScramRefusal.{AsksFewer}
use Rattle.pgp_frontend.specs.ClientMessage.{ClientMessage, PasswordMessage}
use Rattle.pgp_login.specs.Exchange.{Added, Answers, Begins, Seen, Unsent, Verified, bound_of, mechanism_by}
use Rattle.pgp_login.specs.Fault.{Fault}
use Rattle.pgp_login.specs.Machine.{Asking, Declines, Nothing, Cleartext, Md5, Sasl, First, Final, Welcome, Other, Lists, LoggedOn, State, Ways, is_due, phase_of}
use Rattle.pgp_login.specs.Machine as machine
use Rattle.pgp_login.specs.declared.asked.Asked.{Asked}
use Rattle.pgp_login.specs.declared.asked.Asked.TheVariants as code
use Rattle.pgp_login.specs.declared.fault.LoginError.{LoginError}
use Rattle.pgp_login.specs.declared.fault.LoginError.TheVariants.{NotAdmitted, NotOffered, TooFewRounds, Undue, Unwritten}
use Rattle.pgp_login.specs.declared.login.Login.{Login}
use Rattle.pgp_login.specs.declared.login.LoginPhase.{LoginPhase}
use Rattle.pgp_login.specs.declared.login.LoginPhase.TheVariants.{AwaitsOffer, AwaitsFirst, AwaitsFinal, AwaitsOk, Done}

-- ---- the code's record

-- how far it is, the exchange if one is admitted, and the other ways
pub record Kept : Type 0 where
  pub phase : LoginPhase
  pub scram : Option Seen
  pub md5 : Option (List ℕ × List ℕ)
  pub cleartext : Option (List ℕ)
  pub none : Bool
  pub least : ℕ
  pub encrypted : Bool

-- the bytes of a user and a password
abbrev pub user_of : Bor (List ℕ) × Bor (List ℕ) → List ℕ × List ℕ
user_of who = (who.0.now, who.1.now)

abbrev pub kept : {E : Type 0} → (E → Seen) → Login E → Kept
kept shown l = record {
  phase = l.phase;
  scram = option_map shown l.ways.scram;
  md5 = option_map user_of l.ways.md5;
  cleartext = option_map (λ (p : Bor (List ℕ)). p.now) l.ways.cleartext;
  none = l.ways.none;
  least = l.ways.least_rounds;
  encrypted = l.ways.encrypted;
}

-- what the code's words say
abbrev pub reported : {A : Type 0} → Asked A → Asking
reported code.Nothing = Nothing
reported code.Cleartext = Cleartext
reported (code.Md5 salt) = Md5 salt
reported (code.Sasl body) = Sasl body.now
reported (code.First text) = First text.now
reported (code.Final text) = Final text.now
reported code.Welcome = Welcome
reported code.Other = Other

-- ---- the state that it stands for

abbrev pub begun_in : Option Seen → Option Begun
begun_in None = None
begun_in (Some x) = x.begun

abbrev pub awaited_in : Option Seen → Option (List ℕ)
awaited_in None = None
awaited_in (Some x) = x.awaited

-- what the exchange is, in this state
abbrev pub HasExchange : State → Option Begun → Option Seen → Type 0
HasExchange machine.AwaitsOffer b x = begun_in x ≡ b
HasExchange machine.AwaitsFirst b x = begun_in x ≡ b
HasExchange (machine.AwaitsFinal signature) b x = awaited_in x ≡ Some signature
HasExchange s b x = Unit {0}

-- The log-in stands for this state of the machine with these ways.
pub record Stands (w : Ways) (encrypted : Bool) (s : State) (l : Kept) : Type 0 where
  pub phase : l.phase ≡ phase_of s
  pub exchange : HasExchange s w.scram l.scram
  pub md5 : l.md5 ≡ w.md5
  pub cleartext : l.cleartext ≡ w.cleartext
  pub none : l.none ≡ w.none
  pub least : l.least ≡ w.least
  pub channel : l.encrypted ≡ encrypted

-- The message led the machine on, and the log-in stands for where it is then.
pub record Follows (w : Ways) (encrypted : Bool) (asked : Asking) (old : State) (new : Kept) (out grown : List ℕ) : Type 0 where
  pub state : State
  pub logged : LoggedOn w encrypted asked old state out grown
  pub stands : Stands w encrypted state new

-- Whatever machine it stood for.
abbrev pub Simulates : Asking → Kept → Kept → List ℕ → List ℕ → Type 0
Simulates asked old new out grown = (w : Ways) (encrypted : Bool) (s : State) → Stands w encrypted s old → Follows w encrypted asked s new out grown

-- or it declines what is asked
abbrev pub DeclinesSo : Type 0 → Asking → Kept → Fault → Type 0
DeclinesSo lacks asked old f = (w : Ways) (encrypted : Bool) (s : State) → Stands w encrypted s old → Declines lacks w encrypted s asked f

-- ---- *private*: what each call makes of it

abbrev pub is_asked : Asking → Bool
is_asked Nothing = false
is_asked asked = true

abbrev pub in_phase : LoginPhase → Kept → Kept
in_phase phase l = record { phase = phase; scram = l.scram; md5 = l.md5; cleartext = l.cleartext; none = l.none; least = l.least; encrypted = l.encrypted }

abbrev pub goes_on : LoginPhase → Seen → Kept → Kept
goes_on phase x l = record { phase = phase; scram = Some x; md5 = l.md5; cleartext = l.cleartext; none = l.none; least = l.least; encrypted = l.encrypted }

abbrev pub Puts : Type 0 → ClientMessage → List ℕ → List ℕ → Result (Unit {0}) Error → Type 0
Puts lacks m old new (Ok done) = Added m old new
Puts lacks m old new (Err e) = Unsent lacks m e

-- the server offers to bind an exchange, and this one isn't
abbrev pub IsUnbound : Bool → Bool → List ℕ → Type 0
IsUnbound encrypted bound mechanisms = (encrypted ≡ false) × (bound ≡ false) × Lists (codes "SCRAM-SHA-256-PLUS") mechanisms

module _ {A : Type 0} (lacks : Type 0) where
  abbrev pub RepliesBy : ClientMessage → Kept → Kept → List ℕ → List ℕ → Result (Unit {0}) (LoginError A) → Type 0
  RepliesBy m next new out grown (Ok done) = Added m out grown × (new ≡ next)
  RepliesBy m next new out grown (Err (Unwritten e)) = Unsent lacks m e
  RepliesBy m next new out grown (Err e) = ⊥

  abbrev pub AsksCleartext : Option (List ℕ) → Kept → Kept → List ℕ → List ℕ → Result (Unit {0}) (LoginError A) → Type 0
  AsksCleartext None old new out grown result = result ≡ Err NotAdmitted
  AsksCleartext (Some password) old new out grown result = RepliesBy (PasswordMessage password) (in_phase AwaitsOk old) new out grown result

  abbrev pub AsksMd5 : Option (List ℕ × List ℕ) → List ℕ → Kept → Kept → List ℕ → List ℕ → Result (Unit {0}) (LoginError A) → Type 0
  AsksMd5 None salt old new out grown result = result ≡ Err NotAdmitted
  AsksMd5 (Some who) salt old new out grown result = RepliesBy (PasswordMessage (md5_answer who.0 who.1 salt)) (in_phase AwaitsOk old) new out grown result

  abbrev pub AsksSaslOf : Option Bool → Seen → List ℕ → Kept → Kept → List ℕ → List ℕ → Result (Unit {0}) (LoginError A) → Type 0
  AsksSaslOf None x mechanisms old new out grown result = result ≡ Err NotAdmitted
  AsksSaslOf (Some bound) x mechanisms old new out grown (Ok done) = Lists (mechanism_by bound) mechanisms × (IsUnbound old.encrypted bound mechanisms → ⊥) × Begins {A = A} lacks x out grown (Ok done) × (new ≡ in_phase AwaitsFirst old)
  AsksSaslOf (Some bound) x mechanisms old new out grown (Err e) = ((e ≡ NotOffered) × (Lists (mechanism_by bound) mechanisms → ⊥)) ⊎ ((e ≡ NotAdmitted) × Lists (mechanism_by bound) mechanisms × IsUnbound old.encrypted bound mechanisms)
      ⊎ (Lists (mechanism_by bound) mechanisms × (IsUnbound old.encrypted bound mechanisms → ⊥) × Begins {A = A} lacks x out grown (Err e))

  abbrev pub AsksSasl : Option Seen → List ℕ → Kept → Kept → List ℕ → List ℕ → Result (Unit {0}) (LoginError A) → Type 0
  AsksSasl None mechanisms old new out grown result = result ≡ Err NotAdmitted
  AsksSasl (Some x) mechanisms old new out grown result = AsksSaslOf (bound_of x) x mechanisms old new out grown result

  abbrev pub AnswersFirst : Option Seen → List ℕ → Kept → Kept → List ℕ → List ℕ → Result (Unit {0}) (LoginError A) → Type 0
  AnswersFirst None text old new out grown result = result ≡ Err NotAdmitted
  AnswersFirst (Some x) text old new out grown (Ok done) = (y : Seen) × Answers {A = A} lacks text x y out grown (Ok done) × (new ≡ goes_on AwaitsFinal y old)
  AnswersFirst (Some x) text old new out grown (Err e) = Answers {A = A} lacks text x x out grown (Err e)

  -- but not where the text asks for fewer rounds than the client does
  abbrev pub CountsFirst : List ℕ → Kept → Kept → List ℕ → List ℕ → Result (Unit {0}) (LoginError A) → Type 0
  CountsFirst text old new out grown result = (AsksFewer old.least text × (result ≡ Err TooFewRounds))
      ⊎ ((AsksFewer old.least text → ⊥) × AnswersFirst old.scram text old new out grown result)

  abbrev pub VerifiesFinal : Option Seen → List ℕ → Kept → Kept → Result (Unit {0}) (LoginError A) → Type 0
  VerifiesFinal None text old new result = result ≡ Err NotAdmitted
  VerifiesFinal (Some x) text old new (Ok done) = (y : Seen) × Verified {A = A} lacks text x (Ok done) × (new ≡ goes_on AwaitsOk y old)
  VerifiesFinal (Some x) text old new (Err e) = Verified {A = A} lacks text x (Err e)

-- the server lets the client in: at once only where that is admitted
abbrev pub WelcomesAt : {A : Type 0} → LoginPhase → Bool → Kept → Kept → Result (Unit {0}) (LoginError A) → Type 0
WelcomesAt AwaitsOffer false old new result = result ≡ Err NotAdmitted
WelcomesAt phase none old new result = (result ≡ Ok tt) × (new ≡ in_phase Done old)

module _ {A : Type 0} (lacks : Type 0) where
  abbrev pub HearsAsked : Asking → Kept → Kept → List ℕ → List ℕ → Result (Unit {0}) (LoginError A) → Type 0
  HearsAsked Nothing old new out grown result = (result ≡ Ok tt) × (new ≡ old) × (grown ≡ out)
  HearsAsked Cleartext old new out grown result = AsksCleartext lacks old.cleartext old new out grown result
  HearsAsked (Md5 salt) old new out grown result = AsksMd5 lacks old.md5 salt old new out grown result
  HearsAsked (Sasl mechanisms) old new out grown result = AsksSasl lacks old.scram mechanisms old new out grown result
  HearsAsked (First text) old new out grown result = CountsFirst lacks text old new out grown result
  HearsAsked (Final text) old new out grown result = VerifiesFinal lacks old.scram text old new result × (grown ≡ out)
  HearsAsked Welcome old new out grown result = WelcomesAt old.phase old.none old new result × (grown ≡ out)
  HearsAsked Other old new out grown result = result ≡ Err NotAdmitted

  abbrev pub HearsDue : Bool → Asking → Kept → Kept → List ℕ → List ℕ → Result (Unit {0}) (LoginError A) → Type 0
  HearsDue false asked old new out grown result = result ≡ Err Undue
  HearsDue true asked old new out grown result = HearsAsked asked old new out grown result

  -- What a message comes to in a log-in.
  abbrev pub Hears : Asking → Kept → Kept → List ℕ → List ℕ → Result (Unit {0}) (LoginError A) → Type 0
  Hears asked old new out grown result = HearsDue (is_due old.phase asked) asked old new out grown result
