-- Rows, composite values and multiranges, as C has them.
use Rattle.std.specs.Prelude.{ℕ, List}
use Rattle.pgp_types.specs.Part.{Begins}
use Rattle.pgp_values.specs.List.{item_count}
use Rattle.pgp_values.specs.Record.{Field}
use Rattle.for_c.specs.Compound.{value_in}
use Rattle.for_c.specs.Walks.{rest}
use Rattle.for_c.specs.declared.cursor.PgpCursor.{PgpCursor}
use Rattle.for_c.specs.declared.record.PgpMember.{PgpMember}

-- the type and the value of a field
abbrev pub member_in : List ℕ → PgpMember → Field
member_in bytes m = (m.of_type, value_in bytes m.value)

-- the cursor is at the first of so many items as the bytes announce
abbrev pub BeginsList : List ℕ → PgpCursor → Type 0
BeginsList bytes c = Begins item_count bytes c.left (rest bytes c)
