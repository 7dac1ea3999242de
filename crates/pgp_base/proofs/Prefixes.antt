-- No spelling of a part begins another.
use Rattle.pgp_base.proofs.Common.{◌≡◌, ℕ, ◌<◌, ◌^◌, true, false, List, [], ◌∷◌, ◌++◌, length, Option, Some, None, refl, sym, ap, ◌∙◌, append_assoc, suc, arith, All, FitsSigned, ◌==◌, w16, w32, cast_unsigned, cast_signed, from_be_bytes, list_any, flat_map, from_be_bytes-to_be_bytes_2, from_be_bytes-to_be_bytes_4, to_z-of_z, append-nil, or_parts, eq-eqb, int16, int32, uint16, uint32, text, nullable, counted, text_cause, count_cause, nullable_cause, BeginsNoOther}
use Rattle.std.proofs.Math.Facts.{Fits-of_z}
use Rattle.pgp_base.proofs.Causes.{fits_of, counts_of, zero_free}
use Rattle.pgp_base.proofs.Parts.{length-uint16, length-uint32, int16_spelled, int32_spelled, null_spelled}

-- two fronts of equal lengths
pub fronts : (a b x y : List ℕ) → length a ≡ length b → a ++ x ≡ b ++ y → (a ≡ b) × (x ≡ y)
fronts [] [] x y n e = (refl, e)
fronts [] (c ∷ b) x y n e = absurd (omega (arith, n))
fronts (c ∷ a) [] x y n e = absurd (omega (arith, n))
fronts (c ∷ a) (d ∷ b) x y n e =
    let h : c ≡ d = cc in
    let t : a ++ x ≡ b ++ y = cc in
    let r = fronts a b x y (omega (arith, n)) t in
    (rw (h, r.0) refl, r.1)

pub uint16_once : (m n : ℕ) → m < 2 ^ 16 → n < 2 ^ 16 → uint16 m ≡ uint16 n → m ≡ n
unfolding uint16
uint16_once m n h k e = sym (from_be_bytes-to_be_bytes_2 m h) ∙ (ap (from_be_bytes w16) e ∙ from_be_bytes-to_be_bytes_2 n k)

pub uint32_once : (m n : ℕ) → m < 2 ^ 32 → n < 2 ^ 32 → uint32 m ≡ uint32 n → m ≡ n
unfolding uint32
uint32_once m n h k e = sym (from_be_bytes-to_be_bytes_4 m h) ∙ (ap (from_be_bytes w32) e ∙ from_be_bytes-to_be_bytes_4 n k)

pub uint16_begins : BeginsNoOther (λ n. n < 2 ^ 16) uint16
uint16_begins m n x y h k e =
    let r = fronts (uint16 m) (uint16 n) x y (length-uint16 m ∙ sym (length-uint16 n)) e in
    (uint16_once m n h k r.0, r.1)

pub uint32_begins : BeginsNoOther (λ n. n < 2 ^ 32) uint32
uint32_begins m n x y h k e =
    let r = fronts (uint32 m) (uint32 n) x y (length-uint32 m ∙ sym (length-uint32 n)) e in
    (uint32_once m n h k r.0, r.1)

pub int16_begins : BeginsNoOther (FitsSigned w16) int16
int16_begins a b x y h k e =
    let e' : uint16 (cast_unsigned w16 a) ++ x ≡ uint16 (cast_unsigned w16 b) ++ y = ap (λ s. s ++ x) (sym (int16_spelled a)) ∙ (e ∙ ap (λ s. s ++ y) (int16_spelled b)) in
    let m : cast_unsigned w16 a < 2 ^ 16 = (Fits-of_z {w = w16} {z = a} h).fits in
    let n : cast_unsigned w16 b < 2 ^ 16 = (Fits-of_z {w = w16} {z = b} k).fits in
    let r = uint16_begins (cast_unsigned w16 a) (cast_unsigned w16 b) x y m n e' in
    (sym (to_z-of_z w16 a h) ∙ (ap (cast_signed w16) r.0 ∙ to_z-of_z w16 b k), r.1)

pub int32_begins : BeginsNoOther (FitsSigned w32) int32
int32_begins a b x y h k e =
    let e' : uint32 (cast_unsigned w32 a) ++ x ≡ uint32 (cast_unsigned w32 b) ++ y = ap (λ s. s ++ x) (sym (int32_spelled a)) ∙ (e ∙ ap (λ s. s ++ y) (int32_spelled b)) in
    let m : cast_unsigned w32 a < 2 ^ 32 = (Fits-of_z {w = w32} {z = a} h).fits in
    let n : cast_unsigned w32 b < 2 ^ 32 = (Fits-of_z {w = w32} {z = b} k).fits in
    let r = uint32_begins (cast_unsigned w32 a) (cast_unsigned w32 b) x y m n e' in
    (sym (to_z-of_z w32 a h) ∙ (ap (cast_signed w32) r.0 ∙ to_z-of_z w32 b k), r.1)

-- a text ends at its first 0 byte
texts_meet : (z w x y : List ℕ) → list_any (λ byte. byte == 0) z ≡ false → list_any (λ byte. byte == 0) w ≡ false → z ++ 0 ∷ x ≡ w ++ 0 ∷ y → (z ≡ w) × (x ≡ y)
texts_meet [] [] x y h k e = (refl, cc)
texts_meet [] (d ∷ w) x y h k e =
    let z : d ≡ 0 = cc in
    let t : false ≡ true = sym (or_parts (d == 0) (list_any (λ byte. byte == 0) w) k).0 ∙ eq-eqb d 0 z in
    cc
texts_meet (c ∷ z) [] x y h k e =
    let w : c ≡ 0 = cc in
    let t : false ≡ true = sym (or_parts (c == 0) (list_any (λ byte. byte == 0) z) h).0 ∙ eq-eqb c 0 w in
    cc
texts_meet (c ∷ z) (d ∷ w) x y h k e =
    let i : c ≡ d = cc in
    let t : z ++ 0 ∷ x ≡ w ++ 0 ∷ y = cc in
    let r = texts_meet z w x y (or_parts (c == 0) (list_any (λ byte. byte == 0) z) h).1 (or_parts (d == 0) (list_any (λ byte. byte == 0) w) k).1 t in
    (rw (i, r.0) refl, r.1)

pub text_begins : BeginsNoOther (λ z. text_cause z ≡ None) text
text_begins z w x y h k e =
    texts_meet z w x y (zero_free z h) (zero_free w k) (sym (append_assoc z (0 ∷ []) x) ∙ (e ∙ append_assoc w (0 ∷ []) y))

-- a length, or the mark of a null
pub head_of : Option (List ℕ) → ℕ
head_of None = 4294967295
head_of (Some z) = length z

pub tail_of : Option (List ℕ) → List ℕ
tail_of None = []
tail_of (Some z) = z

split : (v : Option (List ℕ)) → nullable v ≡ uint32 (head_of v) ++ tail_of v
unfolding head_of tail_of
split None = sym null_spelled ∙ sym (append-nil (uint32 4294967295))
split (Some z) = refl

head_fits : (v : Option (List ℕ)) → nullable_cause v ≡ None → head_of v < 2 ^ 32
unfolding head_of
head_fits None h = omega arith
head_fits (Some z) h = omega (arith, fits_of (length z) h)

same_value : (v w : Option (List ℕ)) (x y : List ℕ) → nullable_cause v ≡ None → nullable_cause w ≡ None → head_of v ≡ head_of w → tail_of v ++ x ≡ tail_of w ++ y → (v ≡ w) × (x ≡ y)
unfolding head_of tail_of
same_value None None x y h k n e = (refl, e)
same_value None (Some w) x y h k n e = absurd (omega (arith, fits_of (length w) k, n))
same_value (Some v) None x y h k n e = absurd (omega (arith, fits_of (length v) h, n))
same_value (Some v) (Some w) x y h k n e = let r = fronts v w x y n e in (ap (λ z. Some z) r.0, r.1)

pub nullable_begins : BeginsNoOther (λ v. nullable_cause v ≡ None) nullable
nullable_begins v w x y h k e =
    let e' : uint32 (head_of v) ++ (tail_of v ++ x) ≡ uint32 (head_of w) ++ (tail_of w ++ y) =
    sym (append_assoc (uint32 (head_of v)) (tail_of v) x) ∙ (ap (λ s. s ++ x) (sym (split v)) ∙ (e ∙ (ap (λ s. s ++ y) (split w) ∙ append_assoc (uint32 (head_of w)) (tail_of w) y))) in
    let r = uint32_begins (head_of v) (head_of w) (tail_of v ++ x) (tail_of w ++ y) (head_fits v h) (head_fits w k) e' in
    same_value v w x y h k r.0 r.1

module _ {A : Type 0} (Has : A → Type 0) (spelling : A → List ℕ) (law : BeginsNoOther Has spelling) where
  -- as many items
  pub items_meet : (xs ys : List A) (x y : List ℕ) → length xs ≡ length ys → All Has xs → All Has ys → flat_map spelling xs ++ x ≡ flat_map spelling ys ++ y → (xs ≡ ys) × (x ≡ y)
  items_meet [] [] x y n h k e = (refl, e)
  items_meet [] (b ∷ ys) x y n h k e = absurd (omega (arith, n))
  items_meet (a ∷ xs) [] x y n h k e = absurd (omega (arith, n))
  items_meet (a ∷ xs) (b ∷ ys) x y n h k e =
      let e' : spelling a ++ (flat_map spelling xs ++ x) ≡ spelling b ++ (flat_map spelling ys ++ y) = sym (append_assoc (spelling a) (flat_map spelling xs) x) ∙ (e ∙ append_assoc (spelling b) (flat_map spelling ys) y) in
      let r = law a b (flat_map spelling xs ++ x) (flat_map spelling ys ++ y) (h 0 a (omega arith)) (k 0 b (omega arith)) e' in
      let s = items_meet xs ys x y (omega (arith, n)) (λ i d l. h (suc i) d (omega (arith, l))) (λ i d l. k (suc i) d (omega (arith, l))) r.1 in
      (rw (r.0, s.0) refl, s.1)

  pub counted_begins : BeginsNoOther (λ xs. All Has xs × (count_cause (length xs) ≡ None)) (counted spelling)
  counted_begins xs ys x y h k e =
      let e' : uint16 (length xs) ++ (flat_map spelling xs ++ x) ≡ uint16 (length ys) ++ (flat_map spelling ys ++ y) =
      sym (append_assoc (uint16 (length xs)) (flat_map spelling xs) x) ∙ (e ∙ append_assoc (uint16 (length ys)) (flat_map spelling ys) y) in
      let r = uint16_begins (length xs) (length ys) (flat_map spelling xs ++ x) (flat_map spelling ys ++ y) (omega (arith, counts_of (length xs) h.1)) (omega (arith, counts_of (length ys) k.1)) e' in
      items_meet xs ys x y r.0 h.0 k.0 r.1
