-- Points and boxes; a coordinate is the bits of a floating-point number (IEEE 754).
-- PostgreSQL manual, "Geometric Types".
use Rattle.std.specs.Prelude.{ℕ, ◌<◌, ◌^◌, List, ◌++◌}
use Rattle.pgp_base.specs.Wire.{uint64}
use Rattle.pgp_types.specs.Format.{Plain, fixed}

pub record Point : Type 0 where
  pub x : ℕ
  pub y : ℕ

pub record Box : Type 0 where
  pub upper_right : Point
  pub lower_left : Point

abbrev pub IsPoint : Point → Type 0
IsPoint p = (p.x < 2 ^ 64) × (p.y < 2 ^ 64)

abbrev pub point_bytes : Point → List ℕ
point_bytes p = uint64 p.x ++ uint64 p.y

abbrev pub IsBox : Box → Type 0
IsBox b = IsPoint b.upper_right × IsPoint b.lower_left

abbrev pub box_bytes : Box → List ℕ
box_bytes b = point_bytes b.upper_right ++ point_bytes b.lower_left

abbrev pub point : Plain Point
point = fixed IsPoint point_bytes 16

abbrev pub box : Plain Box
box = fixed IsBox box_bytes 32
