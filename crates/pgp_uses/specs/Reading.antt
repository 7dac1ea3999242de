-- What a server reads of a client, in the words of its grammar.
use Rattle.std.specs.Prelude.{◌≡◌, ℕ, Bool, true, false, List, Option, Some, None, Result, Ok}
use Rattle.pgp_frontend.specs.ClientMessage.{ClientMessage, Query, Password}
use Rattle.pgp_frontend_read.specs.declared.error.ClientError.{ClientError}
use Rattle.pgp_frontend_read.specs.Step.{Unread, Stands, Step}

abbrev pub is_query : Result (Option ClientMessage) ClientError → Bool
is_query (Ok (Some (Query text))) = true
is_query read = false

-- A query stands at the front, and these bytes after it; or a step along the bytes gives no query.
abbrev pub FrontQuery : List ℕ → Option (List ℕ × List ℕ) → Type 0
FrontQuery bytes (Some front) = Stands Password true bytes (Query front.0) front.1
FrontQuery bytes None = (read : Result (Option ClientMessage) ClientError) × (new : Unread) × Step Password (record { bytes = bytes; opened = true }) read new × (is_query read ≡ false)
