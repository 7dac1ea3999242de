-- What a writer of one message into memory of the caller's comes to.
use Rattle.std.specs.Prelude.{◌≡◌, ◌≢◌, ◌⊎◌, ℕ, ◌<◌, ◌≤◌, List, ◌++◌, length, drop, Some, None}
use Rattle.pgp_base.specs.Error.{number_of}
use Rattle.pgp_base.specs.declared.error.Error.{Error}
use Rattle.pgp_frontend.specs.ClientMessage.{ClientMessage}
use Rattle.pgp_frontend.specs.Payload.{bytes_of, cause, IsInRange}

-- The message has a spelling that fits, stands at the front of the memory, and its length is reported; after it the memory is as it
-- was.
pub record Sent (m : ClientMessage) (old new : List ℕ) (reported : ℕ) : Type 0 where
  pub in_range : IsInRange m
  pub none : cause m ≡ None
  pub length_is : reported ≡ length (bytes_of m)
  pub fits : length (bytes_of m) ≤ length old
  pub stands : new ≡ bytes_of m ++ drop (length (bytes_of m)) old

-- Why nothing is to be sent: the message is longer than the memory; or it has a cause, whose number is answered, and which isn't lack of
-- room. So 1 is answered only where the message is longer, and of a message without a cause exactly there.
abbrev pub Why : ClientMessage → List ℕ → ℕ → Type 0
Why m old code = ((code ≡ 1) × (length old < length (bytes_of m))) ⊎ ((code ≢ 1) × ((e : Error) × (cause m ≡ Some e) × (code ≡ number_of e)))

-- Nothing is to be sent.
pub record NotSent (m : ClientMessage) (old : List ℕ) (reported code : ℕ) : Type 0 where
  pub length_is : reported ≡ 0
  pub why : Why m old code
