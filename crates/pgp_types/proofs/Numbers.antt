-- The numbers of the wire and their spellings.
use Rattle.pgp_types.proofs.Common.{◌≡◌, ℕ, ◌<◌, ◌^◌, List, [], ◌∷◌, length, refl, sym, ap, ◌∙◌, arith, ℤ, FitsSigned, w8, w16, w64, of_z-to_z, to_z-of_z, Width, to_be_bytes, from_be_bytes, cast_signed, cast_unsigned, slice_index, IsBytes, int16, int32, int64, uint32, uint64, char_byte}
use Rattle.std.proofs.Common.{w32}
use Rattle.std.proofs.Math.Facts.{Fits-of_z, Fits-of_lt, sfits_to_z}
use Rattle.std.proofs.lemmas.Nat.{be_bytes_2, be_bytes_4, be_bytes_8, from_be_bytes-to_be_bytes_2, from_be_bytes-to_be_bytes_4, from_be_bytes-to_be_bytes_8}
use Rattle.pgp_types.proofs.Spelling.{IsSpelling, gives}
use mir.Val.{bits}

-- numbers without a sign, by their width
abbrev IsUnsigned : Width → (ℕ → List ℕ) → ℕ → (List ℕ → ℕ) → Type 0
IsUnsigned w written size read = IsSpelling (λ n. n < 2 ^ bits w) written size read

one_byte : (bytes : List ℕ) → length bytes ≡ 1 → bytes ≡ slice_index bytes 0 ∷ []
one_byte [] l = absurd (omega arith)
one_byte (b ∷ []) l = refl
one_byte (b ∷ c ∷ rest) l = absurd (omega arith)

unsigned8 : IsUnsigned w8 (λ n. n ∷ []) 1 (λ bytes. slice_index bytes 0)
unsigned8 = record {
  sized = λ n _. refl;
  has = λ bytes small size. small 0;
  spelled = λ bytes small size. one_byte bytes size;
  again = λ n below. refl;
}

unsigned16 : IsUnsigned w16 (to_be_bytes w16) 2 (from_be_bytes w16)
unsigned16 = record {
  sized = λ n _. refl;
  has = λ bytes small size. omega (arith, small 0, small 1);
  spelled = λ bytes small size. sym (be_bytes_2 bytes _ size small refl);
  again = from_be_bytes-to_be_bytes_2;
}

unsigned32 : IsUnsigned w32 (to_be_bytes w32) 4 (from_be_bytes w32)
unsigned32 = record {
  sized = λ n _. refl;
  has = λ bytes small size. omega (arith, small 0, small 1, small 2, small 3);
  spelled = λ bytes small size. sym (be_bytes_4 bytes _ size small refl);
  again = from_be_bytes-to_be_bytes_4;
}

unsigned64 : IsUnsigned w64 (to_be_bytes w64) 8 (from_be_bytes w64)
unsigned64 = record {
  sized = λ n _. refl;
  has = λ bytes small size. omega (arith, small 0, small 1, small 2, small 3, small 4, small 5, small 6, small 7);
  spelled = λ bytes small size. sym (be_bytes_8 bytes _ size small refl);
  again = from_be_bytes-to_be_bytes_8;
}

-- a sign is read off the bits
signed : (w : Width) {written : ℕ → List ℕ} {size : ℕ} {read : List ℕ → ℕ} → IsUnsigned w written size read
    → IsSpelling (FitsSigned w) (λ z. written (cast_unsigned w z)) size (λ bytes. cast_signed w (read bytes))
signed w {written} {size} {read} u = record {
  sized = λ z fits. u.sized _ (Fits-of_z fits).fits;
  has = λ bytes small l. sfits_to_z (Fits-of_lt (u.has bytes small l));
  spelled = λ bytes small l. u.spelled bytes small l ∙ sym (ap written (of_z-to_z w _ (u.has bytes small l)));
  again = λ z fits. ap (cast_signed w) (u.again _ (Fits-of_z fits).fits) ∙ to_z-of_z w z fits;
}

pub int8_spelling : IsSpelling (FitsSigned w8) char_byte 1 (λ bytes. cast_signed w8 (slice_index bytes 0))
int8_spelling = signed w8 unsigned8

pub int16_spelling : IsSpelling (FitsSigned w16) int16 2 (λ bytes. cast_signed w16 (from_be_bytes w16 bytes))
unfolding int16
int16_spelling = signed w16 unsigned16

pub int32_spelling : IsSpelling (FitsSigned w32) int32 4 (λ bytes. cast_signed w32 (from_be_bytes w32 bytes))
unfolding int32
int32_spelling = signed w32 unsigned32

pub int64_spelling : IsSpelling (FitsSigned w64) int64 8 (λ bytes. cast_signed w64 (from_be_bytes w64 bytes))
unfolding int64
int64_spelling = signed w64 unsigned64

pub uint32_spelling : IsSpelling (λ n. n < 2 ^ 32) uint32 4 (from_be_bytes w32)
unfolding uint32
uint32_spelling = unsigned32

pub uint64_spelling : IsSpelling (λ n. n < 2 ^ 64) uint64 8 (from_be_bytes w64)
unfolding uint64
uint64_spelling = unsigned64

-- `gives` where the number went through its bits
pub gives_signed : (w : Width) {written : ℤ → List ℕ} {size : ℕ} {read : List ℕ → ℤ} → IsSpelling (FitsSigned w) written size read
    → (bytes xs : List ℕ) → (IsBytes xs × (length xs ≡ size)) × (bytes ≡ xs) → (z : ℤ) → z ≡ read xs
    → FitsSigned w (cast_signed w (cast_unsigned w z)) × (bytes ≡ written (cast_signed w (cast_unsigned w z)))
gives_signed w s bytes xs all z is =
    let fact = gives s bytes xs all z is in
    gives s bytes xs all _ (to_z-of_z w z fact.0 ∙ is)

pub is_uint64 : (n : ℕ) (bytes : List ℕ) → bytes ≡ to_be_bytes w64 n → bytes ≡ uint64 n
unfolding uint64
is_uint64 n bytes is = is
