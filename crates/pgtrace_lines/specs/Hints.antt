-- What is said on standard error where a side isn't listed to its end.
use Rattle.std.specs.Prelude.{ℕ, Bool, true, false, List, [], ◌∷◌, ◌++◌, ◌==◌, if◌then◌else◌, codes}
use Rattle.pgtrace_lines.specs.declared.side.Phase.TheVariants.{Beginning, Messages, Replicating, Encrypted}
use Rattle.pgtrace_lines.specs.Sides.{Side, Server, Client}

-- Why bytes may be left, by what is known of the side there: of a stream by itself, with the option that helps; or of one in a recording.
abbrev pub hint : (recorded : Bool) → Side → List ℕ
hint recorded (Server Beginning) =
    if recorded then codes "pgtrace: no message of a server stands where the server's bytes begin" ++ 10 ∷ []
    else codes "pgtrace: no message of a server stands where the stream begins" ++ 10 ∷ []
hint recorded (Server Messages) = []
hint recorded (Server Replicating) = []
hint recorded (Server Encrypted) =
    if recorded then codes "pgtrace: what the server sends from there on is encrypted" ++ 10 ∷ []
    else codes "pgtrace: what follows is encrypted; a stream that begins in mid-session is listed with --resume" ++ 10 ∷ []
hint recorded (Client false kinds replicating) =
    if recorded then codes "pgtrace: no packet that opens a connection stands where the client's bytes are left: they are encrypted, or the recording begins in mid-session" ++ 10 ∷ []
    else codes "pgtrace: no packet that opens a connection stands there: what follows is encrypted, or the stream begins in mid-session and is listed with --resume" ++ 10 ∷ []
hint recorded (Client true kinds replicating) = []

-- where so many are
abbrev pub hint_of : (recorded : Bool) → Side → ℕ → List ℕ
hint_of recorded side left = if left == 0 then [] else hint recorded side
