-- Secrets in a line.
use Rattle.std.specs.Prelude.{ℕ, Bool, true, false, List, [], ◌∷◌, length, codes}
use Rattle.pgtool_line.specs.declared.style.Style.{Style}
use Rattle.pgtool_line.specs.Line.{Part, Member, Text, Hidden, key}

-- a secret, or how long it is
abbrev pub secret_by : Bool → List ℕ → Part
secret_by true bytes = Text bytes
secret_by false bytes = Hidden (length bytes)

abbrev pub secret : Style → List ℕ → Part
secret style bytes = secret_by style.secrets bytes

-- a message of tag `p` of which nothing is known is reported by its length alone
abbrev pub response_parts : Style → Bool → List ℕ → List Part
response_parts style true response = key (codes "data") ∷ secret style response ∷ []
response_parts style false response = Member (codes "data") ∷ Hidden (length response) ∷ []
