-- What the bits of a floating-point number say, and what is shown of it.
use Rattle.std.proofs.Common.{◌≡◌, ◌≢◌, ℕ, zero, suc, ◌+◌, ◌*◌, ◌/◌, ◌%◌, ◌^◌, ◌<◌, ◌++◌, List, Bool, true, false, refl, sym, ap, ◌∙◌, subst, arith}
unfoldable use Rattle.std.specs.Float.{float_is_finite}
unfoldable use Rattle.std.specs.Float.{is_sign_negative}
use Rattle.pgp_value_text.proofs.Common.{codes, from_bits, ltb, field_value, is_equal, kept, marked, ShowsFloat, ShowsSize, sign_text, Float, Format, binary32, binary64, false≢true}
use lib.Ieee.{is_nan}
use lib.Ieee.Bits.{nan_bits_is, nan_bits_above}
use Rattle.std.specs.Float.Parse.{parse_float}
use Rattle.pgp_value_text.proofs.Sizes.{one_size, same_size}
use lib.Dec.{leb, eqb}
use lib.Ieee.{hid, ones, top, low, prec, up, down, of_bits, of_fields, odd, nan, inf, fin}
use lib.Ieee.Exact.{HasValue, odd_sign}
use lib.Ieee.Fits.{down_pos}
use mathlib.Core.Bool.{cond}
use borrow.Author.Tests.{ne_eqb, eq-eqb}

-- a finite number, by its fields
fields_value : (f : Format) (s : Bool) (x t : ℕ) → x ≢ ones f → HasValue (of_fields f s x t) s ((field_value x t (hid f)).0 * 2 ^ (field_value x t (hid f)).1) (2 ^ low f)
unfolding of_fields
fields_value f s zero t h = odd_sign (prec f) s t 0 (low f)
fields_value f s (suc x) t h =
    subst (λ b. HasValue (cond b (cond (eqb t 0) (inf s) nan) (odd (prec f) s (hid f + t) x (low f))) s ((hid f + t) * 2 ^ x) (2 ^ low f)) (sym (ne_eqb (suc x) (ones f) h)) (odd_sign (prec f) s (hid f + t) x (low f))

-- the highest field is that of no finite number
not_finite : (f : Format) (s : Bool) (x t : ℕ) → suc x ≡ ones f → float_is_finite (of_fields f s (suc x) t) ≡ false
unfolding of_fields float_is_finite
not_finite f s x t e = rw (eq-eqb (suc x) (ones f) e) (either (eqb t 0))
  where
    either : (b : Bool) → float_is_finite (cond b (inf s) nan) ≡ false
    either true = refl
    either false = refl

finite_field : (f : Format) (s : Bool) (x t : ℕ) → float_is_finite (of_fields f s x t) ≡ true → x ≢ ones f
finite_field f s zero t h e = omega (arith, e)
finite_field f s (suc x) t h e = false≢true (sym (not_finite f s x t e) ∙ h)

pub bits_value : (f : Format) (b : ℕ) → float_is_finite (of_bits f b) ≡ true
    → HasValue (of_bits f b) (leb (top f) b) ((field_value (b % top f / hid f) (b % hid f) (hid f)).0 * 2 ^ (field_value (b % top f / hid f) (b % hid f) (hid f)).1) (2 ^ low f)
unfolding of_bits
bits_value f b h = fields_value f (leb (top f) b) (b % top f / hid f) (b % hid f) (finite_field f (leb (top f) b) (b % top f / hid f) (b % hid f) h)

-- the text of a number of this value
pub shows_value : (f : Format) (x : Float) (s : Bool) (a c : ℕ) → 0 < c → HasValue x s a c → (size : List ℕ) → ShowsSize (kept f) a c size
    → ShowsFloat f x (marked (is_equal (parse_float f (sign_text s ++ size)) x) (sign_text s ++ size))
shows_value f nan s a c pos v size h = absurd v
shows_value f (inf t) s a c pos v size h = absurd v
shows_value f (fin t m e) s a c pos v size h =
    subst (λ r. ShowsFloat f (fin t m e) (marked (is_equal (parse_float f (sign_text r ++ size)) (fin t m e)) (sign_text r ++ size))) v.0
    (size, same_size a c (m * up e) (down e) pos (down_pos e) (sym v.1) (kept f) size h, refl)

-- it is what was put together
pub marked_so : (f : Format) (x : Float) (s read put m : List ℕ) (exact : Bool) → read ≡ s → put ≡ s → exact ≡ is_equal (parse_float f read) x → m ≡ marked exact put → m ≡ marked (is_equal (parse_float f s) x) s
marked_so f x s read put m exact a b e h = h ∙ (ap (λ t. marked exact t) b ∙ ap (λ t. marked t s) (e ∙ ap (λ t. is_equal (parse_float f t) x) a))

pub shows_nan : (f : Format) (x : Float) → is_nan x ≡ true → ShowsFloat f x (codes "NaN")
unfolding is_nan
shows_nan f nan h = refl
shows_nan f (inf s) h = absurd (false≢true h)
shows_nan f (fin s m e) h = absurd (false≢true h)

pub shows_negative : (f : Format) (x : Float) → is_nan x ≡ false → float_is_finite x ≡ false → is_sign_negative x ≡ true → ShowsFloat f x (codes "-Infinity")
unfolding is_nan float_is_finite is_sign_negative
shows_negative f nan h i n = absurd (false≢true (sym h))
shows_negative f (inf true) h i n = refl
shows_negative f (inf false) h i n = absurd (false≢true n)
shows_negative f (fin s m e) h i n = absurd (false≢true (sym i))

pub shows_positive : (f : Format) (x : Float) → is_nan x ≡ false → float_is_finite x ≡ false → is_sign_negative x ≡ false → ShowsFloat f x (codes "Infinity")
unfolding is_nan float_is_finite is_sign_negative
shows_positive f nan h i n = absurd (false≢true (sym h))
shows_positive f (inf true) h i n = absurd (false≢true (sym n))
shows_positive f (inf false) h i n = refl
shows_positive f (fin s m e) h i n = absurd (false≢true (sym i))

-- bits above those of an infinity, but for the sign, are no number's
pub nan_double : (bits : ℕ) → is_nan (from_bits binary64 bits) ≡ ltb 0x7ff0_0000_0000_0000 (bits % 2 ^ 63)
nan_double bits = sym (nan_bits_is binary64 bits) ∙ nan_bits_above binary64 bits

pub nan_single : (bits : ℕ) → is_nan (from_bits binary32 bits) ≡ ltb 0x7f80_0000 (bits % 2 ^ 31)
nan_single bits = sym (nan_bits_is binary32 bits) ∙ nan_bits_above binary32 bits

-- it has one text
pub one_float : (f : Format) (x : Float) (a b : List ℕ) → ShowsFloat f x a → ShowsFloat f x b → a ≡ b
one_float f nan a b s t = s ∙ sym t
one_float f (inf n) a b s t = s ∙ sym t
one_float f (fin n m e) a b s t =
    s.2 ∙ (ap (λ size. marked (is_equal (parse_float f (sign_text n ++ size)) (fin n m e)) (sign_text n ++ size)) (one_size (kept f) (m * up e) (down e) s.0 t.0 (down_pos e) s.1 t.1) ∙ sym t.2)
