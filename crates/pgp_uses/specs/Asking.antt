-- What a question by a named statement sends: the extended query of one int4.
-- PostgreSQL manual, "Message Flow": "Extended Query".
use Rattle.std.specs.Prelude.{◌≡◌, ℕ, ℤ, pos, true, List, [], ◌∷◌, ◌++◌, length, Option, Some, None, Result, Ok, Err}
use Rattle.std.specs.List.{flat_map, AllByRecursion}
use Rattle.pgp_base.specs.Calls.{value_of}
use Rattle.pgp_base.specs.Cause.{Wants, WantsMemory}
use Rattle.pgp_base.specs.Held.{Held}
use Rattle.pgp_base.specs.declared.error.Error.{Error}
use Rattle.pgp_base.specs.declared.error.BindError.{BindError}
use Rattle.pgp_base.specs.declared.error.BindError.TheVariants.{Conversion, Serialization}
use Rattle.pgp_base.specs.declared.number.IsNull.{IsNull}
use Rattle.pgp_frontend.specs.ClientMessage.{ClientMessage, PasswordKind, Parse, Bind, Describe, Execute, Sync}
use Rattle.pgp_frontend.specs.Payload.{bytes_of, cause}
use Rattle.pgp_types.specs.Scalar.{int4}
use Rattle.pgp_frontend.specs.ClientRun.{ClientRun, kinds_of}
use Rattle.pgp_stream.specs.ClientStream.{Sent, IsAdded, IsLeft, RefusesMessage}
use Rattle.postgres_protocol.specs.OneValue.{Target, PutsOne, OneRefused}
use Rattle.pgp_uses.specs.declared.session.AskError.{AskError}
use Rattle.pgp_uses.specs.declared.session.AskError.TheVariants.{Message, Binding}
use denote.Ref.{MutBor}

-- the message that binds a value, in binary, to the one parameter of the named statement, for an answer in binary
abbrev pub named_bound : List ℕ → Option (List ℕ) → ClientMessage
named_bound name v = Bind [] name (pos 1 ∷ []) (v ∷ []) (pos 1 ∷ [])

-- the statement is parsed, bound to the value, described (80 is `P`, a portal), and run with no limit of rows
abbrev pub question : List ℕ → List ℕ → ℤ → List ClientMessage
question name sql value = Parse name sql [] ∷ named_bound name (Some (int4.written value)) ∷ Describe 80 [] ∷ Execute [] (pos 0) ∷ Sync ∷ []

abbrev pub IsBind : ClientMessage → Type 0
IsBind (Bind portal statement formats values results) = Unit {0}
IsBind m = ⊥

-- Which message an error reports, and why that was refused after what stood `here`: for lack of memory, or for its cause. `Conversion` is the
-- error of the value itself, and an int4 always has a spelling.
abbrev pub Blames : {K : Type 0} → (Held K → ℕ → Type 0) → Held K → AskError → ClientMessage → Type 0
Blames lacks here (Message e) m = (IsBind m → ⊥) × RefusesMessage m lacks here e
Blames lacks here (Binding (Conversion e)) m = IsBind m × WantsMemory (Wants lacks here (length (bytes_of m))) e
Blames lacks here (Binding (Serialization e)) m = IsBind m × RefusesMessage m lacks here e

module _ {B K : Type 0} (held : B → Held K) where
  -- Each has a spelling, and these stand after the old bytes: however a server reads those, it now reads these messages
  -- after them.
  pub record AreAdded (ms : List ClientMessage) (old new : Sent B) : Type 0 where
    pub opened : new.opened ≡ true
    pub none : AllByRecursion (λ m. cause m ≡ None) ms
    pub bytes : (held new.buf).bytes ≡ (held old.buf).bytes ++ flat_map bytes_of ms
    pub kept : (held new.buf).kept ≡ (held old.buf).kept
    pub reads : (kinds : List PasswordKind) (messages : List ClientMessage) → ClientRun kinds messages (held old.buf).bytes
        → ClientRun (kinds ++ flat_map kinds_of ms) (messages ++ ms) (held new.buf).bytes

  -- a message was rejected, and those before it were added, which was `reached`
  pub record Stops (ms : List ClientMessage) (lacks : Held K → ℕ → Type 0) (e : AskError) (old new : Sent B) : Type 0 where
    pub front : List ClientMessage
    pub at : ClientMessage
    pub rest : List ClientMessage
    pub are : ms ≡ front ++ at ∷ rest
    pub reached : Sent B
    pub begun : AreAdded front old reached
    pub added : AreAdded front old new
    pub why : Blames lacks (held reached.buf) e at

  -- all messages were added; or those before one that was rejected
  abbrev pub AddsAll : List ClientMessage → (Held K → ℕ → Type 0) → Sent B → Sent B → Result (Unit {0}) AskError → Type 0
  AddsAll ms lacks old new (Ok done) = AreAdded ms old new
  AddsAll ms lacks old new (Err e) = Stops ms lacks e old new

-- what it is bound to, for an answer in binary
abbrev pub named : List ℕ → Target
named name = record { portal = []; statement = name; results = pos 1 ∷ [] }

-- What a `bind` to a named statement of one value comes to, which a serializer makes: it was called once, after the place of the
-- value's length, and left as `last`.
module _ {F B K : Type 0} (held : B → Held K) (step : F → ℕ → MutBor B → Result IsNull Error → MutBor B → F → Type 0) (f last : F) (name : List ℕ) (old : Sent B) where
  -- the message of the value that it made was added
  pub record NamedAdded (new : Sent B) : Type 0 where
    pub null : IsNull
    pub bytes : List ℕ
    pub put : PutsOne held step (named name) f last (held old.buf) (Ok null) bytes
    pub added : IsAdded held (named_bound name (value_of null bytes)) old new

  abbrev pub NamedBinds : (Held K → ℕ → Type 0) → Sent B → Result (Unit {0}) (BindError Error) → Type 0
  NamedBinds lacks new (Ok done) = NamedAdded new
  NamedBinds lacks new (Err e) = OneRefused held step (named name) f last (held old.buf) lacks e × IsLeft held old new

-- the same, with the serializer's last state
pub record BindsNamed {F B K : Type 0} (held : B → Held K) (step : F → ℕ → MutBor B → Result IsNull Error → MutBor B → F → Type 0) (f : F) (name : List ℕ) (lacks : Held K → ℕ → Type 0) (old new : Sent B) (result : Result (Unit {0}) (BindError Error)) : Type 0 where
  pub last : F
  pub binds : NamedBinds held step f last name old lacks new result
