-- A range and a multirange have one text.
use Rattle.pgp_value_text.proofs.Common.{◌≡◌, ℕ, true, List, Option, Some, None, refl, sym, ap, ◌∙◌, ◌++◌, codes, IsShown, Shows, ◌∷◌, [], IsElementBy, IsElementText, ShowsBound, ShowsMultirange, ShowsRange, ShowsSide, bound_of, closing, opening, Walk, Range, Side, between, empty, range, quoted, BinaryFormat, formats, format_in, multirange, range_sound, multirange_sound}
use Rattle.pgp_types.specs.declared.range.RangeBound.TheVariants.{Inclusive, Exclusive, Unbounded}
use Rattle.pgp_values.specs.declared.formats.BinaryFormat.TheVariants.{Multirange, Range as RangeFormat}
use Rattle.pgp_value_text.proofs.Forms.{one_formatted, one_in, one_plain}
use Rattle.pgp_value_text.proofs.Parts.{one_list}
use Rattle.pgp_value_text.proofs.Texts.{one_shown}

one_bound : (n : ℕ) (v : Option (List ℕ)) (a b : List ℕ) → ShowsBound n v a → ShowsBound n v b → a ≡ b
one_bound n None a b s t = absurd s
one_bound n (Some bytes) a b s t = s.2 ∙ (ap (quoted true) (one_plain n bytes s.0 t.0 s.1 t.1) ∙ sym t.2)

one_side : (n : ℕ) (x : Side) (a b : List ℕ) → ShowsSide n x a → ShowsSide n x b → a ≡ b
one_side n Unbounded a b s t = s ∙ sym t
one_side n (Inclusive v) a b s t = one_bound n v a b s t
one_side n (Exclusive v) a b s t = one_bound n v a b s t

pub one_range : (n : ℕ) (r : Range) (a b : List ℕ) → ShowsRange n r a → ShowsRange n r b → a ≡ b
one_range n empty a b s t = s ∙ sym t
one_range n (between l u) a b s t =
    s.4 ∙ (ap (λ low. opening l ∷ (low ++ 44 ∷ (s.1 ++ closing u ∷ []))) (one_side n l s.0 t.0 s.2 t.2)
    ∙ (ap (λ high. opening l ∷ (t.0 ++ 44 ∷ (high ++ closing u ∷ []))) (one_side n u s.1 t.1 s.3 t.3) ∙ sym t.4))

pub one_member : (n : ℕ) (bytes a b : List ℕ) → Shows range (ShowsRange n) bytes a → Shows range (ShowsRange n) bytes b → a ≡ b
one_member n = one_shown range range_sound (ShowsRange n) (one_range n)

one_multirange : (n : ℕ) (w : Walk (List ℕ)) (a b : List ℕ) → ShowsMultirange n w a → ShowsMultirange n w b → a ≡ b
one_multirange n = one_list (Shows range (ShowsRange n)) (one_member n) (codes "{") (codes "}")

pub one_by : (f : BinaryFormat) (n : ℕ) (bytes a b : List ℕ) → IsElementBy f n bytes a → IsElementBy f n bytes b → a ≡ b
one_by (RangeFormat bound) n = one_member bound
one_by (Multirange r) n = one_shown multirange multirange_sound (ShowsMultirange (bound_of (format_in formats r))) (one_multirange (bound_of (format_in formats r)))
one_by f n = one_formatted f n

pub one_element_text : (n : ℕ) (bytes a b : List ℕ) → IsElementText n bytes a → IsElementText n bytes b → a ≡ b
one_element_text n = one_in IsElementBy one_by (format_in formats n) n

-- a format of neither ranges nor multiranges
pub plain_element : (f : BinaryFormat) (n : ℕ) → ((b : ℕ) → f ≡ RangeFormat b → ⊥) → ((r : ℕ) → f ≡ Multirange r → ⊥) → IsElementBy f n ≡ IsShown f n
plain_element (RangeFormat b) n h k = absurd (h b refl)
plain_element (Multirange r) n h k = absurd (k r refl)
plain_element f n h k = refl
