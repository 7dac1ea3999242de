-- A client's stream in memory of the caller's.
use Rattle.std.specs.Prelude.{◌≡◌, ◌≤◌, ℕ, ◌+◌, true, List, [], ◌∷◌, ◌++◌, length, take, drop, None, if◌then◌else◌}
use Rattle.pgp_frontend.specs.ClientMessage.{ClientMessage, CopyData, PasswordKind}
use Rattle.pgp_frontend.specs.Payload.{bytes_of, cause}
use Rattle.pgp_frontend.specs.ClientRun.{ClientRun, kinds_of, is_startup, is_opened}
use Rattle.for_c.specs.Copying.{copy_head}
use Rattle.for_c.specs.declared.stream.PgpStream.{PgpStream}

-- what is to be sent
abbrev pub pending : PgpStream → List ℕ
pending s = take s.len s.room.now

-- the memory after it
abbrev pub free : PgpStream → List ℕ
free s = drop s.len s.room.now

-- The message stands after what was to be sent. Whatever was sent before: however a server reads that and what was to be sent, as
-- messages among which a startup packet is exactly where the stream is open, it now reads this message after them. What is to be sent
-- lies in the memory, which is as long as it was, and as it was after that.
pub record Extends (m : ClientMessage) (old new : PgpStream) : Type 0 where
  pub none : cause m ≡ None
  pub appended : pending new ≡ pending old ++ bytes_of m
  pub length_is : new.len ≡ old.len + length (bytes_of m)
  pub fits : new.len ≤ length old.room.now
  pub behind : free new ≡ drop new.len old.room.now
  pub opened : new.is_open ≡ (if is_startup m then true else old.is_open)
  pub reads : (sent : List ℕ) (kinds : List PasswordKind) (messages : List ClientMessage) → is_opened messages ≡ old.is_open
      → ClientRun kinds messages (sent ++ pending old) → ClientRun (kinds ++ kinds_of m) (messages ++ m ∷ []) (sent ++ pending new)

-- The head of a message with so many bytes of data stands after what was to be sent. Any data of this length after that are the message,
-- which has no cause, and a server that reads what stands before them as messages, in this phase, reads it after them. The head lies in
-- the memory, which is as long as it was, and as it was after that.
pub record ExtendsByHead (len : ℕ) (old new : PgpStream) : Type 0 where
  pub appended : pending new ≡ pending old ++ copy_head len
  pub length_is : new.len ≡ old.len + 5
  pub fits : new.len ≤ length old.room.now
  pub behind : free new ≡ drop new.len old.room.now
  pub opened : new.is_open ≡ old.is_open
  pub message : (bytes : List ℕ) → length bytes ≡ len → (cause (CopyData bytes) ≡ None) × (pending new ++ bytes ≡ pending old ++ bytes_of (CopyData bytes))
  pub reads : (bytes sent : List ℕ) (kinds : List PasswordKind) (messages : List ClientMessage) → length bytes ≡ len → is_opened messages ≡ old.is_open
      → ClientRun kinds messages (sent ++ pending old) → ClientRun kinds (messages ++ CopyData bytes ∷ []) (sent ++ (pending new ++ bytes))

-- the same is to be sent, in the same phase, and the memory is as long as it was
pub record Keeps (old new : PgpStream) : Type 0 where
  pub same : pending new ≡ pending old
  pub room : length new.room.now ≡ length old.room.now
  pub len : new.len ≡ old.len
  pub is_open : new.is_open ≡ old.is_open
