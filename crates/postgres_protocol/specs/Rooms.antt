-- Which messages fit in the room that a window on the caller's memory has left, and what a call comes to by that.
use Rattle.std.specs.Prelude.{◌≡◌, ℕ, ◌+◌, ◌≤◌, length, None, Result, Err, IfErr}
use Rattle.std.specs.Borrow.{GName}
use Rattle.std.specs.Result.{IsOk, IsErr}
use Rattle.pgp_base.specs.Held.{Held, ◌⊕◌}
use Rattle.pgp_base.specs.Window.{window_held, window_lacks}
use Rattle.pgp_base.specs.declared.window.Window.{Window}
use Rattle.pgp_base.specs.declared.error.Error.{Error}
use Rattle.pgp_base.specs.declared.error.Error.TheVariants.{OutOfMemory}
use Rattle.pgp_base.specs.declared.error.BindError.{BindError}
use Rattle.pgp_base.specs.declared.error.BindError.TheVariants.{Conversion, Serialization}
use Rattle.pgp_frontend.specs.ClientMessage.{ClientMessage}
use Rattle.pgp_frontend.specs.Payload.{bytes_of, cause}
use Rattle.pgp_stream.specs.ClientStream.{Sent, IsAdded}

-- the message is no longer than the room that is left
abbrev pub HasRoom : Held (GName × ℕ) → ClientMessage → Type 0
HasRoom h m = length h.bytes + length (bytes_of m) ≤ h.kept.1

-- the message is longer
abbrev pub LacksRoom : Held (GName × ℕ) → ClientMessage → Type 0
LacksRoom h m = window_lacks h (length (bytes_of m))

-- A call on a stream over a window goes by the room for this message; `wants` is its error for lack of memory. Where the message has no
-- cause it is added if it fits, and memory is wanted if it doesn't. Memory is wanted nowhere else.
pub record GoesByRoom {E : Type 0} (m : ClientMessage) (wants : E) (old new : Sent Window) (result : Result (Unit {0}) E) : Type 0 where
  pub fits : cause m ≡ None → HasRoom (window_held old.buf) m → IsOk result × IsAdded window_held m old new
  pub longer : cause m ≡ None → LacksRoom (window_held old.buf) m → result ≡ Err wants
  pub only : result ≡ Err wants → LacksRoom (window_held old.buf) m

-- lack of memory, as the binding of an array reports it: of a step, of the array, or of the message
abbrev pub IsWant : BindError (BindError Error) → Type 0
IsWant (Conversion (Conversion e)) = e ≡ OutOfMemory
IsWant (Conversion (Serialization e)) = e ≡ OutOfMemory
IsWant (Serialization e) = e ≡ OutOfMemory

-- A message that has no cause is bound by the room that a window has left: it is appended if it fits. It is refused if it doesn't; each
-- error is lack of memory, and comes nowhere else.
pub record BindsByRoom (m : ClientMessage) (old new : Held (GName × ℕ)) (result : Result (Unit {0}) (BindError (BindError Error))) : Type 0 where
  pub fits : HasRoom old m → IsOk result × (new ≡ old ⊕ bytes_of m)
  pub longer : LacksRoom old m → IsErr result
  pub only : IfErr result (λ e. IsWant e × LacksRoom old m)
