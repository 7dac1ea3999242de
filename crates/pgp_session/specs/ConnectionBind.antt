-- What a Bind of a connection comes to, whose values a serializer writes.
use Rattle.std.specs.Prelude.{◌≡◌, ℕ, true, false, List, [], Result, Ok, Err}
use Rattle.pgp_base.specs.Held.{Held}
use Rattle.pgp_base.specs.declared.error.BindError.{BindError}
use Rattle.pgp_frontend.specs.ClientMessage.{ClientMessage}
use Rattle.pgp_session.specs.Connection.{Sent, Shown, may_ask}
use Rattle.pgp_login.specs.Exchange.{Added}
use Rattle.pgp_session.specs.declared.connection_error.BindSendError.{BindSendError}
use Rattle.pgp_session.specs.declared.connection_error.BindSendError.TheVariants.{OutOfMemory, OutOfPhase, Unwritten}

-- A buffer holds these bytes, and nothing stands after them.
pub record Has {Kept : Type 0} (items : List ℕ) (here : Held Kept) : Type 0 where
  pub bytes : here.bytes ≡ items
  pub behind : here.behind ≡ []

-- What the call came to in a buffer that has these bytes.
abbrev pub FromBytes : {Kept X : Type 0} → List ℕ → (Held Kept → X → Type 0) → X → Type 0
FromBytes {Kept} items Is x = (here : Held Kept) × Has items here × Is here x

-- `Whole` says which message it is, and `Refuses` why a writer rejects it.
module _ {E : Type 0} (Whole : ClientMessage → Type 0) (Refuses : BindError E → Type 0) where
  -- *private*: the message was added, or nothing was
  abbrev pub PutsGiven : List ℕ → List ℕ → Result (Unit {0}) (BindError E) → Type 0
  PutsGiven old new (Ok done) = (m : ClientMessage) × Whole m × Added m old new
  PutsGiven old new (Err e) = Refuses e × (new ≡ old)

  -- The message was added to what is to be sent, and asked of the server under this name; or nothing changed.
  abbrev pub SendsBind : Type 0 → Shown → Shown → Result ℕ (BindSendError E) → Type 0
  SendsBind lacks old new (Ok name) = (m : ClientMessage) × Whole m × Sent m old new name
  SendsBind lacks old new (Err OutOfPhase) = (may_ask old ≡ false) × (new ≡ old)
  SendsBind lacks old new (Err (Unwritten e)) = (may_ask old ≡ true) × Refuses e × (new ≡ old)
  SendsBind lacks old new (Err OutOfMemory) = (may_ask old ≡ true) × lacks × (new ≡ old)
