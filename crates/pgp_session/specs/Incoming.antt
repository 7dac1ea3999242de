-- How a connection keeps what came: the frame of the message that it took in place, and the bytes behind it.
use Rattle.std.specs.Prelude.{◌≡◌, ℕ, List, [], Option, Some, None, Ok}
use Rattle.pgp_message.specs.BackendMessage.{Message}
use Rattle.pgp_message.specs.Stream.{TakesFrame}

pub record Waiting : Type 0 where
  pub current : List ℕ
  pub rest : List ℕ

-- The bytes are the frame of this message; or there are none, and no message.
abbrev pub Reads : List ℕ → Option Message → Type 0
Reads frame None = frame ≡ []
Reads frame (Some m) = TakesFrame frame (Ok m) []

-- *private*: the bytes are a message's frame, or none
abbrev pub HasFrame : List ℕ → Type 0
HasFrame frame = (m : Option Message) × Reads frame m
