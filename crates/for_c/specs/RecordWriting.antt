-- The fields of records and the ranges of multiranges, as C hands them over.
use Rattle.std.specs.Prelude.{ℕ, List}
use Rattle.pgp_values.specs.Record.{Field}
use Rattle.for_c.specs.Lists.{value_of}
use Rattle.for_c.specs.declared.record_writing.PgpItem.{PgpItem}
use Rattle.for_c.specs.declared.record_writing.PgpTyped.{PgpTyped}

abbrev pub typed_of : PgpTyped → Field
typed_of f = (f.of_type, value_of f.value)

abbrev pub item_of : PgpItem → List ℕ
item_of r = r.bytes.now
