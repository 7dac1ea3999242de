-- What each side sent in a recording.
use Rattle.std.specs.Prelude.{◌≡◌, List, [], ◌++◌, length, ℕ}
use Rattle.pgtrace_session.specs.Common.{flat_map, Ends, Sender, Client, Server}
use Rattle.pgtrace_session.specs.Conversation.{Talk, half_in, side_in}
use Rattle.pgtrace_session.specs.Recording.{Chunk}

-- the bytes of a chunk, where this side sent it
abbrev pub sent_by : (who sender : Sender) → List ℕ → List ℕ
sent_by Client Client bytes = bytes
sent_by Server Server bytes = bytes
sent_by Client Server bytes = []
sent_by Server Client bytes = []

-- the bytes of all chunks that it sent
abbrev pub sent : Sender → List Chunk → List ℕ
sent who chunks = flat_map (λ (c : Chunk). sent_by who c.sender c.bytes) chunks

-- Of all that a side sent, these were listed, and this rest wasn't, in which no frame is whole.
pub record IsSplit (who : Sender) (chunks : List Chunk) (talk : Talk) : Type 0 where
  pub front : List ℕ
  pub whole : sent who chunks ≡ front ++ (half_in who talk).rest
  pub passed : (half_in who talk).passed ≡ length front
  pub ending : Ends (side_in who talk.known) (half_in who talk).stopped (half_in who talk).rest
