-- The names of prepared statements on a server's connection that clients share.
use Rattle.std.specs.Prelude.{◌≡◌, ◌⊎◌, ℕ, List, [], ◌∷◌, ◌++◌, Result, Err, decimal, ◌==◌, if◌then◌else◌}
use Rattle.pgp_base.specs.Held.{Held}
use Rattle.pgp_base.specs.declared.error.Error.{Error}
use Rattle.pgp_base.specs.declared.error.Error.TheVariants.{OutOfMemory}
use Rattle.pgp_frontend.specs.ClientMessage.{ClientMessage, Bind, Close, Describe, Parse}
use Rattle.pgp_frontend.specs.Payload.{WritesMessage}

-- the client's number, `_`, and the name that the client gave it; the unnamed statement has none
abbrev pub shared_name : ℕ → List ℕ → List ℕ
shared_name client [] = []
shared_name client (first ∷ rest) = decimal client ++ 95 ∷ first ∷ rest

-- The statement that a message names. A Describe and a Close are of a statement (`S`) or of a portal.
abbrev pub statement_in : ClientMessage → List ℕ
statement_in (Parse name query param_types) = name
statement_in (Bind portal statement formats values result_formats) = statement
statement_in (Describe variant name) = if variant == 83 then name else []
statement_in (Close variant name) = if variant == 83 then name else []
statement_in m = []

-- the message with another name in its place
abbrev pub renamed : List ℕ → ClientMessage → ClientMessage
renamed new (Parse name query param_types) = Parse new query param_types
renamed new (Bind portal statement formats values result_formats) = Bind portal new formats values result_formats
renamed new (Describe variant name) = Describe variant (if variant == 83 then new else name)
renamed new (Close variant name) = Close variant (if variant == 83 then new else name)
renamed new m = m

abbrev pub shared : ℕ → ClientMessage → ClientMessage
shared client m = renamed (shared_name client (statement_in m)) m

-- It is written as any message is; or there is no memory for the name, and nothing is written.
abbrev pub Shares : {K : Type 0} → Type 0 → ClientMessage → (Held K → ℕ → Type 0) → Held K → Held K → Result (Unit {0}) Error → Type 0
Shares wants m lacks old new result = WritesMessage m lacks old new result ⊎ (wants × (result ≡ Err OutOfMemory) × (new ≡ old))
