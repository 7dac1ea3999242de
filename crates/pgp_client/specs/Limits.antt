-- The limits of a server's messages: how long one is by its header, and which statuses there are.
use Rattle.std.specs.Prelude.{ℕ, nat_lt, Bool, false, not, List, Option, Some, None, ◌==◌, ◌||◌}
use Rattle.pgp_message.specs.ServerMessage.{Message, ReadyForQuery}
use Rattle.pgp_message.specs.Remembered.{header_of}

abbrev pub longer : ℕ → Option (ℕ × ℕ) → Bool
longer limit None = false
longer limit (Some header) = nat_lt limit header.1

-- the bytes begin with a header that announces more bytes than the limit, its own four counted
abbrev pub is_longer : ℕ → List ℕ → Bool
is_longer limit bytes = longer limit (header_of bytes)

-- The status of a ReadyForQuery is that of no transaction, of one, or of a failed one.
abbrev pub is_status : ℕ → Bool
is_status s = (s == 73) || (s == 84) || (s == 69)  -- I, T, E

abbrev pub lacks_status : Message → Bool
lacks_status (ReadyForQuery s) = not (is_status s)
lacks_status m = false
