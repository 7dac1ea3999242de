-- What the parts of a message hold, by their shapes.
use Rattle.std.specs.Prelude.{ℕ, ℤ, List, [], ◌∷◌, Option}
use Rattle.pgp_frontend.specs.Payload.{Part, Byte, Int16, Int32, Oid, Text, Int16s, Oids, Values, Nullable, Rest, Key, Pairs}
use Rattle.pgp_frontend.specs.Reading.{Shape, AByte, AnInt16, AnInt32, AnOid, AText, SomeInt16s, SomeOids, SomeValues, ANullable, AllBytes, AKey, SomePairs}

-- what a part of this shape holds
abbrev pub Content : Shape → Type 0
Content AByte = ℕ
Content AnInt16 = ℤ
Content AnInt32 = ℤ
Content AnOid = ℕ
Content AText = List ℕ
Content SomeInt16s = List ℤ
Content SomeOids = List ℕ
Content SomeValues = List (Option (List ℕ))
Content ANullable = Option (List ℕ)
Content AllBytes = List ℕ
Content AKey = List ℕ
Content SomePairs = List (List ℕ × List ℕ)

-- the part of this shape that holds it
abbrev pub part : (s : Shape) → Content s → Part
part AByte n = Byte n
part AnInt16 z = Int16 z
part AnInt32 z = Int32 z
part AnOid n = Oid n
part AText z = Text z
part SomeInt16s zs = Int16s zs
part SomeOids ns = Oids ns
part SomeValues vs = Values vs
part ANullable v = Nullable v
part AllBytes z = Rest z
part AKey z = Key z
part SomePairs ps = Pairs ps

-- one thing, and what comes after it
pub record Then (A B : Type 0) : Type 0 where
  pub first : A
  pub rest : B

-- what parts of these shapes hold
abbrev pub Contents : List Shape → Type 0
Contents [] = Unit {0}
Contents (s ∷ shapes) = Then (Content s) (Contents shapes)

-- the parts that hold it
abbrev pub parts_of : (shapes : List Shape) → Contents shapes → List Part
parts_of [] c = []
parts_of (s ∷ shapes) c = part s c.first ∷ parts_of shapes c.rest
