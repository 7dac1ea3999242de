-- The items of lists, by their places among the bytes.
use Rattle.std.specs.Prelude.{◌≤◌, ℕ, List, Option, Some, None, if◌then◌else◌}
use Rattle.std.specs.declared.ops.Range.{Range}
use Rattle.pgp_message.specs.Items.{FieldPart, ErrorPart}
use Rattle.for_c.specs.Parts.{stands}
use Rattle.for_c.specs.declared.row.PgpColumn.{PgpColumn}
use Rattle.for_c.specs.declared.description.PgpField.{PgpField}
use Rattle.for_c.specs.declared.report.PgpErrorField.{PgpErrorField}

-- where a value of a row stands; none for a null
abbrev pub range_of : PgpColumn → Option (Range ℕ)
range_of c = if c.is_null then None else Some (record { start = c.start; end = c.end })

-- it ends no sooner than it begins, and lies before this place
abbrev pub IsColumnInside : ℕ → PgpColumn → Type 0
IsColumnInside size c = (c.start ≤ c.end) × (c.end ≤ size)

-- what a column's description says with this name
abbrev pub named : List ℕ → PgpField → FieldPart
named name f = record {
  name = name;
  table_oid = f.table_oid;
  column_id = f.column_id;
  type_oid = f.type_oid;
  type_size = f.type_size;
  type_modifier = f.type_modifier;
  format = f.format;
}

-- a column of a row description, whose name stands at its place
abbrev pub field_of : List ℕ → PgpField → FieldPart
field_of bytes f = named (stands bytes f.name) f

-- a field of an error, whose value stands at its place
abbrev pub error_field_of : List ℕ → PgpErrorField → ErrorPart
error_field_of bytes f = record { code = f.code; value = stands bytes f.value }
