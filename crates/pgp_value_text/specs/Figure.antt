-- The texts of geometric figures, by those of their coordinates.
-- PostgreSQL manual, "Geometric Types"; in the server's source `path_encode`, `line_out` and `circle_out`.
use Rattle.std.specs.Prelude.{◌≡◌, ℕ, from_bits, if◌then◌else◌, List, [], ◌∷◌, ◌++◌, codes}
use Rattle.std.specs.Borrow.{Bor}
use Rattle.std.specs.Float.{binary64}
use Rattle.pgp_types.specs.Geometry.{Box, Point}
use Rattle.pgp_types.specs.Path.{WalkedPath, path}
use Rattle.pgp_values.specs.declared.geometry.Circle.{Circle}
use Rattle.pgp_values.specs.declared.geometry.Line.{Line}
use Rattle.pgp_values.specs.declared.geometry.Segment.{Segment}
use Rattle.pgp_value_text.specs.Float.{ShowsFloat}
use Rattle.pgp_value_text.specs.Parts.{ShowsList}

-- numbers by their bits, each after what stands before it, and what ends the figure
abbrev pub ShowsNumbers : List (List ℕ × ℕ) → List ℕ → List ℕ → Type 0
ShowsNumbers [] end text = text ≡ end
ShowsNumbers (n ∷ ns) end text = (number : List ℕ) × (more : List ℕ) × ShowsFloat binary64 (from_bits binary64 n.1) number × ShowsNumbers ns end more
    × (text ≡ n.0 ++ (number ++ more))

-- `(1,2)`
abbrev pub ShowsPoint : Point → List ℕ → Type 0
ShowsPoint p = ShowsNumbers ((codes "(", p.x) ∷ (codes ",", p.y) ∷ []) (codes ")")

-- `[(1,2),(3,4)]`
abbrev pub ShowsSegment : Segment → List ℕ → Type 0
ShowsSegment v = ShowsNumbers ((codes "[(", v.x1) ∷ (codes ",", v.y1) ∷ (codes "),(", v.x2) ∷ (codes ",", v.y2) ∷ []) (codes ")]")

-- `(3,4),(1,2)`
abbrev pub ShowsBox : Box → List ℕ → Type 0
ShowsBox b = ShowsNumbers ((codes "(", b.upper_right.x) ∷ (codes ",", b.upper_right.y) ∷ (codes "),(", b.lower_left.x) ∷ (codes ",", b.lower_left.y) ∷ []) (codes ")")

-- `{1,2,3}`
abbrev pub ShowsLine : Line → List ℕ → Type 0
ShowsLine v = ShowsNumbers ((codes "{", v.a) ∷ (codes ",", v.b) ∷ (codes ",", v.c) ∷ []) (codes "}")

-- `<(1,2),3>`
abbrev pub ShowsCircle : Circle → List ℕ → Type 0
ShowsCircle v = ShowsNumbers ((codes "<(", v.x) ∷ (codes ",", v.y) ∷ (codes "),", v.radius) ∷ []) (codes ">")

-- `((1,2),(3,4))`, or in square brackets where the last point isn't joined to the first
abbrev pub ShowsPath : WalkedPath → List ℕ → Type 0
ShowsPath p = ShowsList ShowsPoint (if p.closed then codes "(" else codes "[") (if p.closed then codes ")" else codes "]") p.points

-- Private: the bytes that are borrowed before a number.
abbrev pub shown_number : Bor (List ℕ) × ℕ → List ℕ × ℕ
shown_number n = (n.0.now, n.1)
