-- The parts that the code's fields stand for.
use Rattle.std.specs.Prelude.{List, Some, map}
use Rattle.pgp_frontend.specs.declared.field.Field.{Field}
use Rattle.pgp_frontend.specs.declared.field.Field.TheVariants as field
use Rattle.pgp_frontend.specs.Payload.{Part, Byte, Int32, Text, Nullable, Rest, Key}

abbrev pub part_of : Field → Part
part_of (field.Byte n) = Byte n
part_of (field.Int32 z) = Int32 z
part_of (field.Text z) = Text z.now
part_of (field.Sized z) = Nullable (Some z.now)
part_of (field.Rest z) = Rest z.now
part_of (field.Key z) = Key z.now

abbrev pub parts_of : List Field → List Part
parts_of fields = map part_of fields
