-- Private: the code's requests as messages, and what a part of a line adds to a startup packet.
use Rattle.std.specs.Prelude.{◌≡◌, ◌≢◌, ◌⊎◌, ℕ, Bool, true, false, List, [], ◌∷◌, ◌++◌, map}
use Rattle.pgp_frontend.specs.ClientMessage.{ClientMessage, Query, PasswordMessage, Startup, SslRequest, Sync, Terminate}
use Rattle.pgp_frontend.specs.Given.{shown}
use Rattle.pgp_frontend.specs.Payload.{minor_of}
use Rattle.pgwire_engines.specs.declared.script as code
use Rattle.pgwire_engines.specs.declared.script.Request.TheVariants as variants
use Rattle.pgwire_engines.specs.Script.{IsPair}

abbrev pub asked : {A : Type 0} → code.Request.Request A → ClientMessage
asked variants.Ssl = SslRequest
asked variants.Sync = Sync
asked variants.Terminate = Terminate
asked (variants.Query text) = Query text.now
asked (variants.Password text) = PasswordMessage text.now
asked (variants.Startup version list) = Startup (minor_of version) (map shown list.items)

-- the part was added if it isn't empty; or it is no name and value
abbrev pub AddsPart : List ℕ → List (List ℕ × List ℕ) → List (List ℕ × List ℕ) → Bool → Type 0
AddsPart part old new true = ((part ≡ []) × (new ≡ old)) ⊎ ((part ≢ []) × ((p : List ℕ × List ℕ) × IsPair part p × (new ≡ old ++ p ∷ [])))
AddsPart part old new false = (part ≢ []) × ((p : List ℕ × List ℕ) → ¬ IsPair part p)
