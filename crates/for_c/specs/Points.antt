-- Paths, as C has them.
use Rattle.std.specs.Prelude.{ℕ, Bool, List, map}
use Rattle.pgp_types.specs.Part.{Begins}
use Rattle.pgp_types.specs.Path.{Path, header}
use Rattle.for_c.specs.Geometry.{point_of}
use Rattle.for_c.specs.Walks.{rest}
use Rattle.for_c.specs.declared.cursor.PgpCursor.{PgpCursor}
use Rattle.for_c.specs.declared.geometry.PgpPoint.{PgpPoint}

abbrev pub path_of : Bool → List PgpPoint → Path
path_of closed points = record { closed = closed; points = map point_of points }

-- the bytes say whether the path is closed, and the cursor is at the first of so many points as they announce
abbrev pub BeginsPath : List ℕ → Bool → PgpCursor → Type 0
BeginsPath bytes closed c = Begins header bytes (closed, c.left) (rest bytes c)
