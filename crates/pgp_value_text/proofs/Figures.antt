-- A figure's numbers, one at a time.
use Rattle.pgp_value_text.proofs.Common.{◌≡◌, ℕ, List, Bool, true, false, Result, Ok, Err, refl, sym, ap, ◌∙◌, subst, ◌++◌, [], from_bits, binary64, ShowsFloat, Tells, ◌∷◌, if◌then◌else◌, codes, drop, length, map, ⊤, ◌<◌, ◌+◌, shown_number, ShowsBox, ShowsCircle, ShowsLine, ShowsNumbers, ShowsPath, ShowsPoint, ShowsSegment, Pushes, ShowsList, Walk, Box, Point, append_assoc, drop_more, WalkedPath}
use Rattle.std.proofs.Math.ListN.{get_or}
use Rattle.std.specs.Borrow.{Bor}
use Rattle.pgp_values.specs.declared.geometry.Circle.{Circle}
use Rattle.pgp_values.specs.declared.geometry.Line.{Line}
use Rattle.pgp_values.specs.declared.geometry.Segment.{Segment}
use Rattle.pgp_value_text.proofs.Floats.{one_float}
use Rattle.pgp_value_text.proofs.Parts.{one_list}

abbrev pub Numbers : Type 0
Numbers = List (List ℕ × ℕ)

pub one_figure : (ns : Numbers) (end a b : List ℕ) → ShowsNumbers ns end a → ShowsNumbers ns end b → a ≡ b
one_figure [] end a b s t = s ∙ sym t
one_figure (n ∷ ns) end a b s t =
    s.4 ∙ (ap (λ x. n.0 ++ (x ++ s.1)) (one_float binary64 (from_bits binary64 n.1) s.0 t.0 s.2 t.2)
    ∙ (ap (λ x. n.0 ++ (t.0 ++ x)) (one_figure ns end s.1 t.1 s.3 t.3) ∙ sym t.4))

module _ (all : Numbers) (end old : List ℕ) where
  -- what was added and what is left make the whole figure, and the other way round
  abbrev pub Left : Numbers → List ℕ → Type 0
  Left rest out = ((t : List ℕ) → ShowsNumbers rest end t → (w : List ℕ) × ShowsNumbers all end w × (out ++ t ≡ old ++ w))
      × ((w : List ℕ) → ShowsNumbers all end w → (t : List ℕ) × ShowsNumbers rest end t × (out ++ t ≡ old ++ w))

  module _ (n : List ℕ × ℕ) (xs rest : Numbers) (e : xs ≡ n ∷ rest) (out : List ℕ) (left : Left xs out) where
    whole : (t : List ℕ) → ShowsNumbers (n ∷ rest) end t → (w : List ℕ) × ShowsNumbers all end w × (out ++ t ≡ old ++ w)
    whole t s = left.0 t (subst (λ l. ShowsNumbers l end t) (sym e) s)

    part : (w : List ℕ) → ShowsNumbers all end w → (t : List ℕ) × ShowsNumbers (n ∷ rest) end t × (out ++ t ≡ old ++ w)
    part w s = let h = left.1 w s in (h.0, subst (λ l. ShowsNumbers l end h.0) e h.1, h.2)

    pub left_none : ((t : List ℕ) → ShowsFloat binary64 (from_bits binary64 n.1) t → ⊥) → (w : List ℕ) → ShowsNumbers all end w → ⊥
    left_none none w s = let h = part w s in none h.1.0 h.1.2

    module _ (mid number : List ℕ) (is : ShowsFloat binary64 (from_bits binary64 n.1) number) (grown : mid ≡ out ++ (n.0 ++ number)) where
      joined : (t : List ℕ) → mid ++ t ≡ out ++ (n.0 ++ (number ++ t))
      joined t = ap (λ m. m ++ t) grown ∙ (append_assoc out (n.0 ++ number) t ∙ ap (λ x. out ++ x) (append_assoc n.0 number t))

      pub left_step : Left rest mid
      left_step = (
        λ t s. let h = whole (n.0 ++ (number ++ t)) (number, t, is, s, refl) in (h.0, h.1, joined t ∙ h.2),
        λ w s. let h = part w s in
            (h.1.1, h.1.3, joined h.1.1 ∙ (ap (λ x. out ++ (n.0 ++ (x ++ h.1.1))) (one_float binary64 (from_bits binary64 n.1) number h.1.0 is h.1.2) ∙ (ap (λ x. out ++ x) (sym h.1.4) ∙ h.2))),
      )

  pub left_end : {E : Type 0} (xs : Numbers) (lacks : Type 0) (out new : List ℕ) (r : Result Bool E) → xs ≡ [] → Left xs out → Tells (λ t. t ≡ end) lacks out new r → Pushes (ShowsNumbers all end) (λ t. t) lacks old new r
  left_end xs lacks out new (Ok true) e left w =
      let h = left.0 w.0 (subst (λ l. ShowsNumbers l end w.0) (sym e) w.1) in (h.0, h.1, w.2 ∙ h.2)
  left_end xs lacks out new (Ok false) e left w = absurd (w.0 end refl)
  left_end xs lacks out new (Err x) e left w = w.0

pub one_point : (p : Point) (a b : List ℕ) → ShowsPoint p a → ShowsPoint p b → a ≡ b
one_point p = one_figure ((codes "(", p.x) ∷ (codes ",", p.y) ∷ []) (codes ")")

pub one_segment : (v : Segment) (a b : List ℕ) → ShowsSegment v a → ShowsSegment v b → a ≡ b
one_segment v = one_figure ((codes "[(", v.x1) ∷ (codes ",", v.y1) ∷ (codes "),(", v.x2) ∷ (codes ",", v.y2) ∷ []) (codes ")]")

pub one_box : (v : Box) (a b : List ℕ) → ShowsBox v a → ShowsBox v b → a ≡ b
one_box v = one_figure ((codes "(", v.upper_right.x) ∷ (codes ",", v.upper_right.y) ∷ (codes "),(", v.lower_left.x) ∷ (codes ",", v.lower_left.y) ∷ []) (codes ")")

pub one_line : (v : Line) (a b : List ℕ) → ShowsLine v a → ShowsLine v b → a ≡ b
one_line v = one_figure ((codes "{", v.a) ∷ (codes ",", v.b) ∷ (codes ",", v.c) ∷ []) (codes "}")

pub one_circle : (v : Circle) (a b : List ℕ) → ShowsCircle v a → ShowsCircle v b → a ≡ b
one_circle v = one_figure ((codes "<(", v.x) ∷ (codes ",", v.y) ∷ (codes "),", v.radius) ∷ []) (codes ">")

pub one_path : (p : WalkedPath) (a b : List ℕ) → ShowsPath p a → ShowsPath p b → a ≡ b
one_path p = one_list ShowsPoint one_point (if p.closed then codes "(" else codes "[") (if p.closed then codes ")" else codes "]") p.points

-- a number of a slice, and what is left after it
module _ (ns : List (Bor (List ℕ) × ℕ)) (i : ℕ) (d : Bor (List ℕ) × ℕ) (inside : i < length ns) (end old out mid : List ℕ)
    (left : Left (map shown_number ns) end old (map shown_number (drop i ns)) out) (b : Bool)
    (pushed : Pushes {E = Unit {0}} (ShowsFloat binary64 (from_bits binary64 (get_or ns i d).1)) (λ t. (get_or ns i d).0.now ++ t) ⊤ out mid (Ok b)) where
  front : map shown_number (drop i ns) ≡ shown_number (get_or ns i d) ∷ map shown_number (drop (i + 1) ns)
  front = ap (λ l. map shown_number l) (drop_more ns i d inside)

  pub each_step : b ≡ true → Left (map shown_number ns) end old (map shown_number (drop (i + 1) ns)) mid
  each_step e =
      let p : (t : List ℕ) × ShowsFloat binary64 (from_bits binary64 (get_or ns i d).1) t × (mid ≡ out ++ ((get_or ns i d).0.now ++ t)) = rw e at pushed in
      left_step (map shown_number ns) end old (shown_number (get_or ns i d)) (map shown_number (drop i ns)) (map shown_number (drop (i + 1) ns)) front out left mid p.0 p.1 p.2

  pub each_none : b ≡ false → (w : List ℕ) → ShowsNumbers (map shown_number ns) end w → ⊥
  each_none e =
      let none : (t : List ℕ) → ShowsFloat binary64 (from_bits binary64 (get_or ns i d).1) t → ⊥ = rw e at pushed in
      left_none (map shown_number ns) end old (shown_number (get_or ns i d)) (map shown_number (drop i ns)) (map shown_number (drop (i + 1) ns)) front out left none

pub closed_path : (p : WalkedPath) (points : Walk Point) → true ≡ p.closed → points ≡ p.points → ShowsList ShowsPoint (codes "(") (codes ")") points ≡ ShowsPath p
closed_path p points e f =
    ap (λ w. ShowsList ShowsPoint (codes "(") (codes ")") w) f ∙ ap (λ b. ShowsList ShowsPoint (if b then codes "(" else codes "[") (if b then codes ")" else codes "]") p.points) e

pub open_path : (p : WalkedPath) (points : Walk Point) → false ≡ p.closed → points ≡ p.points → ShowsList ShowsPoint (codes "[") (codes "]") points ≡ ShowsPath p
open_path p points e f =
    ap (λ w. ShowsList ShowsPoint (codes "[") (codes "]") w) f ∙ ap (λ b. ShowsList ShowsPoint (if b then codes "(" else codes "[") (if b then codes ")" else codes "]") p.points) e
