-- The items of each walk: how one is spelled at a place of its buffer, and why none stands there.
-- PostgreSQL manual, "Message Formats", the repeated parts.
use Rattle.std.specs.Prelude.{FitsSigned, ⊤, ◌≡◌, ◌⊎◌, ℕ, ℤ, pos, negsuc, ◌+◌, ◌<◌, ◌^◌, List, [], ◌∷◌, ◌++◌, length, Option, Some, None}
use Rattle.std.specs.Int.{w16, w32}
use Rattle.std.specs.Str.{IsUtf8}
use Rattle.std.specs.declared.ops.Range.{Range}
use Rattle.pgp_base.specs.declared.error.Error.{Error}
use Rattle.pgp_base.specs.declared.error.Error.TheVariants.{UnexpectedEof, NotUtf8}
use Rattle.pgp_base.specs.Wire.{int16, int32, uint16, oid, text, HasNoZero}

-- Names: texts, of which `SaslMechanisms` and `ProtocolOptions` are lists, or strings of any bytes, of which `RawMechanisms` and `RawOptions` are.

abbrev pub AnyBytes : List ℕ → Type 0
AnyBytes bytes = ⊤

-- a string that is such a name, and the 0 that ends it
pub record NameSpelled (IsName : List ℕ → Type 0) (place : ℕ) (x : List ℕ) (front : List ℕ) : Type 0 where
  pub no_zero : HasNoZero x
  pub is : IsName x
  pub parts : front ≡ text x

-- a string that is no such name
pub record BeginsWithNoName (IsName : List ℕ → Type 0) (rest : List ℕ) : Type 0 where
  pub string : List ℕ
  pub more : List ℕ
  pub no_zero : HasNoZero string
  pub bad : ¬ IsName string
  pub parts : rest ≡ text string ++ more

abbrev pub NameRefused : (List ℕ → Type 0) → List ℕ → Error → Type 0
NameRefused IsName rest UnexpectedEof = HasNoZero rest
NameRefused IsName rest NotUtf8 = BeginsWithNoName IsName rest
NameRefused IsName rest e = ⊥

abbrev pub TextSpelled : ℕ → List ℕ → List ℕ → Type 0
TextSpelled = NameSpelled IsUtf8

abbrev pub TextRefused : List ℕ → Error → Type 0
TextRefused = NameRefused IsUtf8

abbrev pub StringSpelled : ℕ → List ℕ → List ℕ → Type 0
StringSpelled = NameSpelled AnyBytes

abbrev pub StringRefused : List ℕ → Error → Type 0
StringRefused = NameRefused AnyBytes

-- Numbers, of which `ColumnFormats` and `Parameters` are lists.

-- the format of a column: an Int16 that is read as unsigned
pub record FormatSpelled (place : ℕ) (x : ℕ) (front : List ℕ) : Type 0 where
  pub fits : x < 2 ^ 16
  pub parts : front ≡ uint16 x

abbrev pub FormatRefused : List ℕ → Error → Type 0
FormatRefused rest UnexpectedEof = length rest < 2
FormatRefused rest e = ⊥

-- the type of a parameter
pub record TypeSpelled (place : ℕ) (x : ℕ) (front : List ℕ) : Type 0 where
  pub fits : x < 2 ^ 32
  pub parts : front ≡ oid x

abbrev pub TypeRefused : List ℕ → Error → Type 0
TypeRefused rest UnexpectedEof = length rest < 4
TypeRefused rest e = ⊥

-- The values of a row, `DataRowRanges`: each is null, or stands between two places of the row's bytes.

-- any negative length is null
pub record IsNullValue (front : List ℕ) : Type 0 where
  pub below : ℕ
  pub fits : FitsSigned w32 (negsuc below)
  pub parts : front ≡ int32 (negsuc below)

-- a length, and so many bytes, which stand between the places
pub record IsValue (place : ℕ) (r : Range ℕ) (front : List ℕ) : Type 0 where
  pub value : List ℕ
  pub fits : FitsSigned w32 (pos (length value))
  pub parts : front ≡ int32 (pos (length value)) ++ value
  pub starts : r.start ≡ place + 4
  pub ends : r.end ≡ place + length front

abbrev pub RangeSpelled : ℕ → Option (Range ℕ) → List ℕ → Type 0
RangeSpelled place None front = IsNullValue front
RangeSpelled place (Some r) front = IsValue place r front

-- a length that announces more bytes than stand there
pub record IsShortValue (rest : List ℕ) : Type 0 where
  pub len : ℕ
  pub more : List ℕ
  pub fits : FitsSigned w32 (pos len)
  pub parts : rest ≡ int32 (pos len) ++ more
  pub short : length more < len

abbrev pub RangeRefused : List ℕ → Error → Type 0
RangeRefused rest UnexpectedEof = (length rest < 4) ⊎ IsShortValue rest
RangeRefused rest e = ⊥

-- The columns of a row description, `Fields` and `RawFields`.

-- what a column's description says
pub record FieldPart : Type 0 where
  pub name : List ℕ
  pub table_oid : ℕ
  pub column_id : ℤ
  pub type_oid : ℕ
  pub type_size : ℤ
  pub type_modifier : ℤ
  pub format : ℤ

-- the six numbers, joined
abbrev pub numbers_of : FieldPart → List ℕ
numbers_of x = oid x.table_oid ++ (int16 x.column_id ++ (oid x.type_oid ++ (int16 x.type_size ++ (int32 x.type_modifier ++ int16 x.format))))

pub record NumbersFit (x : FieldPart) : Type 0 where
  pub table_oid : x.table_oid < 2 ^ 32
  pub column_id : FitsSigned w16 x.column_id
  pub type_oid : x.type_oid < 2 ^ 32
  pub type_size : FitsSigned w16 x.type_size
  pub type_modifier : FitsSigned w32 x.type_modifier
  pub format : FitsSigned w16 x.format

-- a name, and the numbers
pub record ColumnSpelled (IsName : List ℕ → Type 0) (place : ℕ) (x : FieldPart) (front : List ℕ) : Type 0 where
  pub no_zero : HasNoZero x.name
  pub is : IsName x.name
  pub fits : NumbersFit x
  pub parts : front ≡ text x.name ++ numbers_of x

-- a name, and fewer bytes than the numbers take
pub record IsShortColumn (IsName : List ℕ → Type 0) (rest : List ℕ) : Type 0 where
  pub name : List ℕ
  pub more : List ℕ
  pub no_zero : HasNoZero name
  pub is : IsName name
  pub parts : rest ≡ text name ++ more
  pub short : length more < 18

abbrev pub ColumnRefused : (List ℕ → Type 0) → List ℕ → Error → Type 0
ColumnRefused IsName rest UnexpectedEof = HasNoZero rest ⊎ IsShortColumn IsName rest
ColumnRefused IsName rest NotUtf8 = BeginsWithNoName IsName rest
ColumnRefused IsName rest e = ⊥

abbrev pub FieldSpelled : ℕ → FieldPart → List ℕ → Type 0
FieldSpelled = ColumnSpelled IsUtf8

abbrev pub FieldRefused : List ℕ → Error → Type 0
FieldRefused = ColumnRefused IsUtf8

-- where a name may be no text
abbrev pub RawFieldSpelled : ℕ → FieldPart → List ℕ → Type 0
RawFieldSpelled = ColumnSpelled AnyBytes

abbrev pub RawFieldRefused : List ℕ → Error → Type 0
RawFieldRefused = ColumnRefused AnyBytes

-- The fields of an error or a notice, `ErrorFields`.

-- what a field says: its type, as the letter's code, and its value
pub record ErrorPart : Type 0 where
  pub code : ℕ
  pub value : List ℕ

-- a byte for the type, and a string
pub record ErrorFieldSpelled (place : ℕ) (x : ErrorPart) (front : List ℕ) : Type 0 where
  pub no_zero : HasNoZero x.value
  pub parts : front ≡ x.code ∷ text x.value

-- a type, and a string that no 0 ends
pub record IsOpenField (rest : List ℕ) : Type 0 where
  pub code : ℕ
  pub more : List ℕ
  pub parts : rest ≡ code ∷ more
  pub no_zero : HasNoZero more

abbrev pub ErrorFieldRefused : List ℕ → Error → Type 0
ErrorFieldRefused rest UnexpectedEof = (rest ≡ []) ⊎ IsOpenField rest
ErrorFieldRefused rest e = ⊥
