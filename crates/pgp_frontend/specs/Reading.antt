-- What a server that knows only the grammar makes of parts and payloads.
use Rattle.std.specs.Prelude.{◌≡◌, ◌≢◌, [], None, All}
use Rattle.pgp_frontend.specs.ClientMessage.{ClientMessage, Startup}
use Rattle.pgp_frontend.specs.Payload.{Part, Byte, Int16, Int32, Oid, Text, Int16s, Oids, Values, Nullable, Rest, Key, Pairs, InRange, IsInRange, part_cause, cause}

-- which part of the grammar it is, without what it holds
pub data Shape : Type 0 where
  AByte : Shape
  AnInt16 : Shape
  AnInt32 : Shape
  AnOid : Shape
  AText : Shape
  SomeInt16s : Shape
  SomeOids : Shape
  SomeValues : Shape
  ANullable : Shape
  AllBytes : Shape
  AKey : Shape
  SomePairs : Shape

abbrev pub shape : Part → Shape
shape (Byte n) = AByte
shape (Int16 z) = AnInt16
shape (Int32 z) = AnInt32
shape (Oid n) = AnOid
shape (Text z) = AText
shape (Int16s zs) = SomeInt16s
shape (Oids ns) = SomeOids
shape (Values vs) = SomeValues
shape (Nullable v) = ANullable
shape (Rest z) = AllBytes
shape (Key z) = AKey
shape (Pairs ps) = SomePairs

-- in the grammar a name isn't empty, since a 0 byte ends the pairs
abbrev pub HasNames : Part → Type 0
HasNames (Pairs ps) = All (λ p. p.0 ≢ []) ps
HasNames _ = Unit {0}

-- the part has a spelling that the grammar reads
pub record HasSpelling (p : Part) : Type 0 where
  pub none : part_cause p ≡ None
  pub in_range : InRange p
  pub named : HasNames p

abbrev pub IsNamed : ClientMessage → Type 0
IsNamed (Startup minor parameters) = All (λ p. p.0 ≢ []) parameters
IsNamed _ = Unit {0}

-- the message has a spelling that the grammar reads
pub record IsSpelled (m : ClientMessage) : Type 0 where
  pub none : cause m ≡ None
  pub in_range : IsInRange m
  pub named : IsNamed m
