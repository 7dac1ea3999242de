-- Why bytes aren't parts of given shapes: the first part from the left that doesn't stand there, or bytes after the last.
use Rattle.std.specs.Prelude.{◌≡◌, ◌≢◌, ◌⊎◌, ℕ, ◌<◌, ◌≤◌, ◌^◌, List, [], ◌∷◌, ◌++◌, length, None, Some, FitsSigned}
use Rattle.std.specs.List.{flat_map, AllByRecursion}
use Rattle.std.specs.Int.{w16}
use Rattle.pgp_base.specs.Wire.{HasNoZero, uint16, uint32, int16, oid, text, nullable}
use Rattle.pgp_base.specs.Cause.{nullable_cause}
use Rattle.pgp_base.specs.declared.error.Error.{Error}
use Rattle.pgp_base.specs.declared.error.Error.TheVariants.{UnexpectedEof, NotDrained, InvalidValueLength}
use Rattle.pgp_frontend.specs.Payload.{pair, spelling, key_cause}
use Rattle.pgp_frontend.specs.Reading.{Shape, AByte, AnInt16, AnInt32, AnOid, AText, SomeInt16s, SomeOids, SomeValues, ANullable, AllBytes, AKey, SomePairs, HasSpelling}
use Rattle.pgp_frontend_read.specs.Content.{Content, part}

-- fewer bytes than these are left
abbrev pub IsShort : ℕ → List ℕ → Error → Type 0
IsShort n bytes e = (length bytes < n) × (e ≡ UnexpectedEof)

-- A length stands there, and it is negative, or fewer bytes than it says stand after it. The number has no sign here: from 2
-- ^ 31 on it is a negative one.
pub record HasWrongLength (bytes : List ℕ) (e : Error) : Type 0 where
  pub len : ℕ
  pub rest : List ℕ
  pub fits : len < 2 ^ 32
  pub whole : bytes ≡ uint32 len ++ rest
  pub wrong : ((2 ^ 31 ≤ len) × (e ≡ InvalidValueLength)) ⊎ ((len < 2 ^ 31) × IsShort len rest e)

-- no value that isn't null stands there
abbrev pub LacksSized : List ℕ → Error → Type 0
LacksSized bytes e = IsShort 4 bytes e ⊎ HasWrongLength bytes e

-- no value stands there, and no null
abbrev pub LacksValue : List ℕ → Error → Type 0
LacksValue bytes e = LacksSized bytes e × ((rest : List ℕ) → bytes ≢ nullable None ++ rest)

-- A count stands there, and fewer items than it says: after these stands no other.
pub record LacksItem {V : Type 0} (Has : V → Type 0) (spell : V → List ℕ) (Lacks : List ℕ → Error → Type 0) (bytes : List ℕ) (e : Error) : Type 0 where
  pub count : ℕ
  pub items : List V
  pub rest : List ℕ
  pub fits : count < 2 ^ 16
  pub have : AllByRecursion Has items
  pub few : length items < count
  pub whole : bytes ≡ uint16 count ++ (flat_map spell items ++ rest)
  pub lacks : Lacks rest e

-- no count stands there, or too few items after it
abbrev pub LacksItems : {V : Type 0} → (V → Type 0) → (V → List ℕ) → (List ℕ → Error → Type 0) → List ℕ → Error → Type 0
LacksItems Has spell Lacks bytes e = IsShort 2 bytes e ⊎ LacksItem Has spell Lacks bytes e

-- a name and a value that the grammar reads
abbrev pub IsPair : List ℕ × List ℕ → Type 0
IsPair p = HasNoZero p.0 × HasNoZero p.1 × (p.0 ≢ [])

-- neither a pair nor the 0 byte stands there: no 0 byte ends the name, or none the value
abbrev pub IsCutPair : List ℕ → Type 0
IsCutPair bytes = HasNoZero bytes ⊎ ((name value : List ℕ) × HasNoZero name × (name ≢ []) × (bytes ≡ text name ++ value) × HasNoZero value)

-- After these pairs stands no other and no 0 byte that ends them, or bytes stand after it.
pub record LacksEnd (bytes : List ℕ) (e : Error) : Type 0 where
  pub pairs : List (List ℕ × List ℕ)
  pub rest : List ℕ
  pub have : AllByRecursion IsPair pairs
  pub whole : bytes ≡ flat_map pair pairs ++ rest
  pub wrong : (IsCutPair rest × (e ≡ UnexpectedEof)) ⊎ ((more : List ℕ) × (rest ≡ 0 ∷ more) × (more ≢ []) × (e ≡ NotDrained))

-- no part of this shape stands there
abbrev pub Lacks : Shape → List ℕ → Error → Type 0
Lacks AByte bytes e = IsShort 1 bytes e
Lacks AnInt16 bytes e = IsShort 2 bytes e
Lacks AnInt32 bytes e = IsShort 4 bytes e
Lacks AnOid bytes e = IsShort 4 bytes e
Lacks AText bytes e = HasNoZero bytes × (e ≡ UnexpectedEof)
Lacks SomeInt16s bytes e = LacksItems (FitsSigned w16) int16 (IsShort 2) bytes e
Lacks SomeOids bytes e = LacksItems (λ n. n < 2 ^ 32) oid (IsShort 4) bytes e
Lacks SomeValues bytes e = LacksItems (λ v. nullable_cause v ≡ None) nullable LacksValue bytes e
Lacks ANullable bytes e = LacksValue bytes e
Lacks AllBytes bytes e = ⊥
Lacks AKey bytes e = key_cause (length bytes) ≡ Some e
Lacks SomePairs bytes e = LacksEnd bytes e

-- such a part takes all bytes that are left
abbrev pub TakesAll : Shape → Type 0
TakesAll AllBytes = Unit {0}
TakesAll AKey = Unit {0}
TakesAll SomePairs = Unit {0}
TakesAll _ = ⊥

-- a part of this shape stands at the front
pub record StandsFirst (s : Shape) (bytes : List ℕ) (x : Content s) (rest : List ℕ) : Type 0 where
  pub spelled : HasSpelling (part s x)
  pub whole : bytes ≡ spelling (part s x) ++ rest
  pub all : TakesAll s → rest ≡ []

-- The parts of these shapes don't stand there, or bytes stand after the last of them.
abbrev pub Faulty : List Shape → List ℕ → Error → Type 0
Faulty [] bytes e = (bytes ≢ []) × (e ≡ NotDrained)
Faulty (s ∷ shapes) bytes e = Lacks s bytes e ⊎ ((x : Content s) × (rest : List ℕ) × StandsFirst s bytes x rest × Faulty shapes rest e)
