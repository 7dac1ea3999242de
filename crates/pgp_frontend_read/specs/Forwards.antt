-- What is written again of bytes that were read.
use Rattle.std.specs.Prelude.{◌≡◌, ℕ, List, [], ◌∷◌, ◌++◌, length, Result, Ok, Err}
use Rattle.pgp_base.specs.Cause.{Wants, WantsMemory}
use Rattle.pgp_base.specs.Held.{Held, ◌⊕◌, Leaves}
use Rattle.pgp_base.specs.declared.error.Error.{Error}
use Rattle.pgp_frontend.specs.ClientMessage.{ClientMessage}
use Rattle.pgp_frontend.specs.Payload.{WritesMessage}

-- These bytes are appended; or there is no memory that they need, and the buffer keeps its own.
abbrev pub Appends : {K : Type 0} → (Held K → ℕ → Type 0) → List ℕ → Held K → Held K → Result (Unit {0}) Error → Type 0
Appends lacks bytes old new (Ok done) = new ≡ old ⊕ bytes
Appends lacks bytes old new (Err e) = WantsMemory (Wants lacks old (length bytes)) e × Leaves old new

-- What stood before the bytes that are left is appended so.
pub record Forwards {K : Type 0} (lacks : Held K → ℕ → Type 0) (bytes left : List ℕ) (old new : Held K) (result : Result (Unit {0}) Error) : Type 0 where
  pub stood : List ℕ
  pub whole : bytes ≡ stood ++ left
  pub appends : Appends lacks stood old new result

-- These messages are written again, one after the other, and none is rejected.
abbrev pub WritesAll : {K : Type 0} → (Held K → ℕ → Type 0) → List ClientMessage → Held K → Held K → Type 0
WritesAll lacks [] old new = new ≡ old
WritesAll {K} lacks (m ∷ messages) old new = (here : Held K) × WritesMessage m lacks old here (Ok tt) × WritesAll lacks messages here new
