-- The front of the bytes in the grammar's terms and as the code reads it.
use Rattle.pgp_message.proofs.Common.{◌≡◌, ℕ, ℤ, zero, suc, ◌+◌, ◌<◌, ◌≤◌, ◌^◌, List, [], ◌∷◌, ◌++◌, length, get_or, drop, refl, sym, ap, subst, ◌∙◌, arith, inl, inr, append_assoc, ◌⊎◌, not, ◌<ℤ◌, ◌≤ℤ◌, lt_z, lt_z_yes, lt_z_no, w32, cast_signed, cases_lt, from_be_bytes-to_be_bytes_4, uint32, int32, IsBytes, int32_number, announced, HeaderPart, IsHeader, BeginsWithHeader, IsPartial, IsLengthFault}
use Rattle.std.specs.Prelude.{true, false}
use Rattle.std.proofs.Math.Dec.{T}
use Rattle.pgp_message.proofs.Cuts.{cells}

pub announced_small : (bytes : List ℕ) → IsBytes bytes → announced bytes < 2 ^ 32
announced_small [] h = omega arith
announced_small (a ∷ []) h = omega arith
announced_small (a ∷ b ∷ []) h = omega (arith, h 1)
announced_small (a ∷ b ∷ c ∷ []) h = omega (arith, h 1, h 2)
announced_small (a ∷ b ∷ c ∷ d ∷ []) h = omega (arith, h 1, h 2, h 3)
announced_small (a ∷ b ∷ c ∷ d ∷ e ∷ rest) h = omega (arith, h 1, h 2, h 3, h 4)

-- ---- what the grammar says is read

pub header_announced : (bytes : List ℕ) (h : BeginsWithHeader bytes) → announced bytes ≡ h.len
unfolding uint32
header_announced bytes h = ap announced h.parts ∙ from_be_bytes-to_be_bytes_4 h.len h.fits

pub header_length : (bytes : List ℕ) (h : BeginsWithHeader bytes) → length bytes ≡ 5 + length h.rest
unfolding uint32
header_length bytes h = omega (arith, ap length h.parts)

pub partial_is : (bytes : List ℕ) → IsPartial bytes → (length bytes < 5) ⊎ ((4 ≤ announced bytes) × (length bytes < announced bytes + 1))
partial_is bytes (inl short) = inl short
partial_is bytes (inr part) =
    let is = header_announced bytes part.header in
    let long = header_length bytes part.header in
    inr (omega (arith, is, part.least), omega (arith, is, long, part.missing))

pub fault_is : (bytes : List ℕ) → IsLengthFault bytes → (5 ≤ length bytes) × (announced bytes < 4)
fault_is bytes fault = (omega (arith, header_length bytes fault.header), omega (arith, header_announced bytes fault.header, fault.small))

-- ---- what is read is what the grammar says

-- the four bytes after the tag
length_bytes : (a b c d e : ℕ) (rest : List ℕ) → IsBytes (a ∷ b ∷ c ∷ d ∷ e ∷ rest) → IsBytes (b ∷ c ∷ d ∷ e ∷ [])
length_bytes a b c d e rest each = λ i. at i
  where
    at : (i : ℕ) → get_or (b ∷ c ∷ d ∷ e ∷ []) i 0 < 256
    at zero = each 1
    at (suc zero) = each 2
    at (suc (suc zero)) = each 3
    at (suc (suc (suc zero))) = each 4
    at (suc (suc (suc (suc i)))) = omega arith

header_cells : (a b c d e : ℕ) (rest : List ℕ) → IsBytes (a ∷ b ∷ c ∷ d ∷ e ∷ rest) → a ∷ b ∷ c ∷ d ∷ e ∷ rest ≡ a ∷ uint32 (announced (a ∷ b ∷ c ∷ d ∷ e ∷ rest)) ++ rest
header_cells a b c d e rest each =
    let spelled : uint32 (announced (a ∷ b ∷ c ∷ d ∷ e ∷ rest)) ≡ b ∷ c ∷ d ∷ e ∷ [] = cells b c d e _ (length_bytes a b c d e rest each) refl in
    ap (λ l. a ∷ l ++ rest) (sym spelled)

header_parts : (bytes : List ℕ) → IsBytes bytes → 5 ≤ length bytes → bytes ≡ get_or bytes 0 0 ∷ uint32 (announced bytes) ++ drop 5 bytes
header_parts (a ∷ b ∷ c ∷ d ∷ e ∷ rest) each long = header_cells a b c d e rest each
header_parts bytes each long = absurd (omega arith)

pub header_there : (bytes : List ℕ) → IsBytes bytes → 5 ≤ length bytes → BeginsWithHeader bytes
header_there bytes each long = record {
  tag = get_or bytes 0 0;
  len = announced bytes;
  rest = drop 5 bytes;
  fits = announced_small bytes each;
  parts = header_parts bytes each long;
}

pub partial_there : (bytes : List ℕ) → IsBytes bytes → 4 ≤ announced bytes → length bytes < announced bytes + 1 → IsPartial bytes
unfolding header_there
partial_there bytes each least short =
    elim (cases_lt (length bytes) 5) [
      | inl few ↦ inl few
      | inr long ↦
          let h = header_there bytes each long in
          inr (record { header = h; least = least; missing = omega (arith, short, header_length bytes h) })
    ]

pub fault_there : (bytes : List ℕ) → IsBytes bytes → 5 ≤ length bytes → announced bytes < 4 → IsLengthFault bytes
unfolding header_there
fault_there bytes each long small = record { header = header_there bytes each long; small = small }

-- a fault stays where bytes are added after
pub fault_stays : (rest more : List ℕ) → IsLengthFault rest → IsLengthFault (rest ++ more)
fault_stays rest more fault =
    let h = fault.header in
    record {
      header = record {
        tag = h.tag;
        len = h.len;
        rest = h.rest ++ more;
        fits = h.fits;
        parts = ap (λ l. l ++ more) h.parts ∙ append_assoc (h.tag ∷ uint32 h.len) h.rest more;
      };
      small = fault.small;
    }

-- what a test of two signed numbers says
pub is_below : (a b : ℤ) → lt_z a b ≡ true → a <ℤ b
is_below a b e = lt_z_yes (subst T (sym e) tt)

pub is_not_below : (a b : ℤ) → lt_z a b ≡ false → b ≤ℤ a
is_not_below a b e = lt_z_no (subst (λ t. T (not t)) (sym e) tt)

-- the length as an Int32
pub int32_header : (bytes : List ℕ) (header : HeaderPart) → IsBytes bytes → 5 ≤ length bytes → header.tag ≡ get_or bytes 0 0 → header.len ≡ cast_signed w32 (announced bytes) → IsHeader bytes header
int32_header (a ∷ b ∷ c ∷ d ∷ e ∷ rest) header each long tag len =
    let four = length_bytes a b c d e rest each in
    let spelled : int32 (cast_signed w32 (announced (a ∷ b ∷ c ∷ d ∷ e ∷ rest))) ≡ b ∷ c ∷ d ∷ e ∷ [] = int32_number.spelled (b ∷ c ∷ d ∷ e ∷ []) four refl in
    record { rest = rest; fits = rw len (int32_number.fits (b ∷ c ∷ d ∷ e ∷ []) four); parts = rw (tag, len) (ap (λ l. a ∷ l ++ rest) (sym spelled)) }
int32_header bytes header each long tag len = absurd (omega arith)
