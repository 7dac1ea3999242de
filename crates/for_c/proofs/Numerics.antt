-- A numeric's digits stand after the eight bytes of its other parts.
use Rattle.for_c.proofs.Common.{◌≡◌, ℕ, ◌+◌, ◌*◌, ◌≤◌, List, length, drop, Ok, refl, sym, ap, subst, ◌∙◌, arith, length-append, flat_map, drop-append_seam, uint16, length-uint16, Numeric, finite, nan, plus_infinity, minus_infinity, Front, NumericReads, pairs_size}
use Rattle.for_c.specs.Numerics.{parts_of, HasParts}
use Rattle.for_c.specs.declared.numeric.PgpNumeric.{PgpNumeric}
use Rattle.for_c.proofs.BindItems.{length-int16}

module _ (bytes : List ℕ) (f : Front bytes) where
  front_long : length f.begins.front ≡ 8
  front_long =
      let s = f.begins.spelled in
      let t = s.other in
      let u = t.other in
      omega (
        arith,
        ap length s.whole,
        length-append s.first s.second,
        ap length s.one.1,
        length-uint16 f.count,
        ap length t.whole,
        length-append t.first t.second,
        ap length t.one.1,
        length-int16 f.weight,
        ap length u.whole,
        length-append u.first u.second,
        ap length u.one.1,
        length-uint16 f.sign,
        ap length u.other.1,
        length-uint16 f.scale,
      )

  rest_stands : drop 8 bytes ≡ f.rest
  rest_stands = ap (λ k. drop k bytes) (sym front_long) ∙ (ap (λ l. drop (length f.begins.front) l) f.begins.whole ∙ drop-append_seam f.begins.front f.rest)

  bytes_long : length bytes ≡ 8 + length f.rest
  bytes_long = ap length f.begins.whole ∙ omega (arith, length-append f.begins.front f.rest, front_long)

parts_read : (bytes : List ℕ) (x : Numeric) → NumericReads bytes (Ok x) → HasParts bytes x (parts_of x)
parts_read bytes (finite d) w = record { reads = w; parts = refl; digits = rest_stands bytes w.0 ∙ (w.3.1.1 ∙ ap (λ ds. flat_map uint16 ds) (sym w.5.1.1.1)) }
parts_read bytes nan w = record { reads = w; parts = refl; digits = tt }
parts_read bytes plus_infinity w = record { reads = w; parts = refl; digits = tt }
parts_read bytes minus_infinity w = record { reads = w; parts = refl; digits = tt }

parts_inside : (bytes : List ℕ) (x : Numeric) → NumericReads bytes (Ok x) → (parts_of x).digits + 2 * (parts_of x).count ≤ length bytes
parts_inside bytes (finite d) w = omega (arith, bytes_long bytes w.0, ap length w.3.1.1, pairs_size w.2, ap length w.5.1.1.1)
parts_inside bytes nan w = omega (arith, bytes_long bytes w.0)
parts_inside bytes plus_infinity w = omega (arith, bytes_long bytes w.0)
parts_inside bytes minus_infinity w = omega (arith, bytes_long bytes w.0)

module _ (bytes : List ℕ) (x : Numeric) (reads : NumericReads bytes (Ok x)) (p : PgpNumeric) (parts : p ≡ parts_of x) where
  pub has_parts : HasParts bytes x p
  has_parts = subst (λ q. HasParts bytes x q) (sym parts) (parts_read bytes x reads)

  pub has_inside : p.digits + 2 * p.count ≤ length bytes
  has_inside = subst (λ q. q.digits + 2 * q.count ≤ length bytes) (sym parts) (parts_inside bytes x reads)
