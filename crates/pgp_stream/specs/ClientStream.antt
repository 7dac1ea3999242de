-- What a client has to send, and what a call adds to it.
use Rattle.std.specs.Prelude.{◌≡◌, ◌⊎◌, ℕ, Bool, true, List, [], ◌∷◌, ◌++◌, length, Some, None, Result, Ok, Err, if◌then◌else◌}
use Rattle.pgp_base.specs.Cause.{Wants, WantsMemory}
use Rattle.pgp_base.specs.Held.{Held, ◌⊕◌, Leaves}
use Rattle.pgp_base.specs.declared.error.Error.{Error}
use Rattle.std.specs.List.{AllByRecursion}
use Rattle.pgp_frontend.specs.ClientMessage.{ClientMessage, PasswordKind, IsOurs}
use Rattle.pgp_frontend.specs.Given.{Refused}
use Rattle.pgp_frontend.specs.Payload.{bytes_of, cause, IsInRange}
use Rattle.pgp_frontend.specs.ClientRun.{ClientRun, kinds_of, is_startup, is_opened}

-- What a stream shows: its buffer, and whether a startup packet was written.
pub record Sent (B : Type 0) : Type 0 where
  pub buf : B
  pub opened : Bool

-- `held` says what a buffer holds.
module _ {B Kept : Type 0} (held : B → Held Kept) where
  -- The message is one that the writers write, has a spelling, and was added: however a server reads the bytes that stood there, it now
  -- reads this message after them, given its kind if it has one.
  pub record IsAdded (m : ClientMessage) (old new : Sent B) : Type 0 where
    pub ours : IsOurs m
    pub in_range : IsInRange m
    pub none : cause m ≡ None
    pub appended : held new.buf ≡ held old.buf ⊕ bytes_of m
    pub opened : new.opened ≡ (if is_startup m then true else old.opened)
    pub reads : (kinds : List PasswordKind) (messages : List ClientMessage) → ClientRun kinds messages (held old.buf).bytes
        → ClientRun (kinds ++ kinds_of m) (messages ++ m ∷ []) (held new.buf).bytes

  -- the bytes and the phase are the same
  pub record IsLeft (old new : Sent B) : Type 0 where
    pub left : Leaves (held old.buf) (held new.buf)
    pub opened : new.opened ≡ old.opened

  -- What each call comes to: it adds the message, which is one of `Meant`; or it is rejected for a
  -- reason that its writer has, and changes nothing.
  abbrev pub Adds : {E : Type 0} → (ClientMessage → Type 0) → (E → Type 0) → Sent B → Sent B → Result (Unit {0}) E → Type 0
  Adds Meant Refuses old new (Ok done) = (m : ClientMessage) × Meant m × IsAdded m old new
  Adds Meant Refuses old new (Err e) = Refuses e × IsLeft old new

-- a writer of the message refuses for want of the memory that it needs, or for the message's cause
abbrev pub RefusesMessage : {Kept : Type 0} → ClientMessage → (Held Kept → ℕ → Type 0) → Held Kept → Error → Type 0
RefusesMessage m lacks old e = WantsMemory (Wants lacks old (length (bytes_of m))) e ⊎ (cause m ≡ Some e)

-- the call adds this message
abbrev pub AddsMessage : {B Kept : Type 0} → (B → Held Kept) → ClientMessage → (Held Kept → ℕ → Type 0) → Sent B → Sent B → Result (Unit {0}) Error → Type 0
AddsMessage held m lacks old new result = Adds held (λ n. n ≡ m) (RefusesMessage m lacks (held old.buf)) old new result

-- The call adds the message of all that iterators gave, which `Whole` says; `SoFar` says that of what came so far.
abbrev pub AddsGiven : {B Kept : Type 0} → (B → Held Kept) → (Whole SoFar : ClientMessage → Type 0) → (Held Kept → ℕ → Type 0) → Sent B → Sent B → Result (Unit {0}) Error → Type 0
AddsGiven held Whole SoFar lacks old new result = Adds held Whole (Refused Whole SoFar lacks (held old.buf)) old new result

-- a server reads these bytes so, as messages that the writers write, and a startup packet is among them where the stream was opened
pub record IsRead (kinds : List PasswordKind) (messages : List ClientMessage) (bytes : List ℕ) (opened : Bool) : Type 0 where
  pub run : ClientRun kinds messages bytes
  pub ours : AllByRecursion IsOurs messages
  pub opens : opened ≡ is_opened messages

-- the bytes are read in some way
abbrev pub Reads : List ℕ → Bool → Type 0
Reads bytes opened = (kinds : List PasswordKind) × (messages : List ClientMessage) × IsRead kinds messages bytes opened
