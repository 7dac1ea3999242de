-- What a line of a script asks for.
use Rattle.std.specs.Prelude.{◌≡◌, ◌≢◌, ◌⊎◌, ℕ, ◌==◌, Bool, List, [], ◌∷◌, ◌++◌, Contains, codes}
use Rattle.std.specs.List.{slice_split}
use Rattle.pgp_frontend.specs.declared.startup.ProtocolVersion.{ProtocolVersion}
use Rattle.pgp_frontend.specs.declared.startup.ProtocolVersion.TheVariants.{V3_0, V3_2}
use Rattle.pgp_frontend.specs.Payload.{minor_of}
use Rattle.pgp_frontend.specs.ClientMessage.{ClientMessage, Query, PasswordMessage, Startup, SslRequest, Sync, Terminate}

abbrev pub is_space : ℕ → Bool
is_space b = b == 32

abbrev pub is_newline : ℕ → Bool
is_newline b = b == 10

-- the line is the word alone, with nothing after it; or the word, a space, and what stands after that
abbrev pub HasWord : List ℕ → List ℕ → List ℕ → Type 0
HasWord word line rest = ((line ≡ word) × (rest ≡ [])) ⊎ (line ≡ word ++ 32 ∷ rest)

-- the part is a name and a value with a `=` between them; the name isn't empty, and has none itself
pub record IsPair (part : List ℕ) (p : List ℕ × List ℕ) : Type 0 where
  pub spelled : part ≡ p.0 ++ 61 ∷ p.1
  pub first : ¬ Contains p.0 61
  pub some : p.0 ≢ []

-- the parts that aren't empty are these names and values, in order
abbrev pub ArePairs : List (List ℕ) → List (List ℕ × List ℕ) → Type 0
ArePairs [] ps = ps ≡ []
ArePairs ([] ∷ parts) ps = ArePairs parts ps
ArePairs ((b ∷ part) ∷ parts) ps = (p : List ℕ × List ℕ) × (more : List (List ℕ × List ℕ)) × (ps ≡ p ∷ more) × IsPair (b ∷ part) p × ArePairs parts more

-- the word that asks for a startup packet of this version
abbrev pub version_word : ProtocolVersion → List ℕ
version_word V3_0 = codes "startup"
version_word V3_2 = codes "startup32"

-- the line asks for the message
abbrev pub Says : List ℕ → ClientMessage → Type 0
Says line SslRequest = line ≡ codes "ssl"
Says line Sync = line ≡ codes "sync"
Says line Terminate = line ≡ codes "terminate"
Says line (Query z) = HasWord (codes "query") line z
Says line (PasswordMessage z) = HasWord (codes "password") line z
Says line (Startup minor ps) = (version : ProtocolVersion) × (minor ≡ minor_of version) × (rest : List ℕ) × HasWord (version_word version) line rest × ArePairs (slice_split is_space rest) ps
Says line _ = ⊥
