-- Paths: whether the last point is joined to the first, and the points.
-- PostgreSQL manual, "Geometric Types"; the layout as a server sends it.
use Rattle.std.specs.Prelude.{◌≡◌, ℕ, Bool, List, [], ◌++◌, map, length, Result, Ok, Err}
use Rattle.std.specs.List.{flat_map, AllByRecursion}
use Rattle.pgp_base.specs.declared.error.Error.{Error}
use Rattle.pgp_base.specs.declared.error.Error.TheVariants.{UnexpectedEof, InvalidCount}
use Rattle.pgp_base.specs.Cause.{length_cause}
use Rattle.pgp_base.specs.Walk.{Walk}
use Rattle.pgp_base.specs.Wire.{uint32}
use Rattle.pgp_types.specs.Format.{Format}
use Rattle.pgp_types.specs.Geometry.{Point, IsPoint, point_bytes}
use Rattle.pgp_types.specs.Part.{Part, Begins, IsWalk, fixed_part, natural, ◌then◌, finished}
use Rattle.pgp_types.specs.Scalar.{bool_bytes, BoolReads}

pub record Path : Type 0 where
  pub closed : Bool
  pub points : List Point

-- a path whose points are walked
pub record WalkedPath : Type 0 where
  pub closed : Bool
  pub points : Walk Point

-- whether it is closed: a byte, as a bool
abbrev pub flag : Part Bool
flag = record { Spelled = λ b front. BoolReads front (Ok b); Refused = λ bytes e. (bytes ≡ []) × (e ≡ UnexpectedEof) }

-- the flag, and how many points there are
abbrev pub header : Part (Bool × ℕ)
header = flag then natural InvalidCount

abbrev pub point_part : Part Point
point_part = fixed_part IsPoint point_bytes 16

abbrev pub path_bytes : Path → List ℕ
path_bytes p = bool_bytes p.closed ++ (uint32 (length p.points) ++ flat_map point_bytes p.points)

abbrev pub PathReads : List ℕ → Result WalkedPath Error → Type 0
PathReads bytes (Ok p) = (n : ℕ) × (rest : List ℕ) × Begins header bytes (p.closed, n) rest × IsWalk point_part n rest p.points
PathReads bytes (Err e) = header.Refused bytes e

abbrev pub path : Format Path WalkedPath
path = record {
  IsValue = λ p. AllByRecursion IsPoint p.points;
  written = path_bytes;
  cause = λ p. length_cause (length p.points);
  seen = λ p. record { closed = p.closed; points = finished p.points };
  Reads = PathReads;
}

-- the path of such coordinates
abbrev pub point_at_xy : ℕ × ℕ → Point
point_at_xy p = record { x = p.0; y = p.1 }

abbrev pub path_of : Bool → List (ℕ × ℕ) → Path
path_of closed points = record { closed = closed; points = map point_at_xy points }
