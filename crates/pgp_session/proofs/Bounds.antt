-- What a connection keeps while bytes of a message are missing.
use Rattle.pgp_session.proofs.Common.{◌≡◌, ◌⊎◌, inl, inr, ℕ, ◌+◌, ◌≤◌, List, ◌∷◌, ◌++◌, length, Some, false, sym, ap, ◌∙◌, arith, nat_lt, nat_tests, length-append, uint32, length-uint32, header_of, BeginsWithHeader, IsPartial, is_longer, longer}

-- a test that failed
within : (limit len : ℕ) → nat_lt limit len ≡ false → len ≤ limit
within limit len h = grind (arith, nat_tests)

-- a header and what stands after it
long : (bytes rest : List ℕ) (tag len : ℕ) → bytes ≡ tag ∷ uint32 len ++ rest → length bytes ≡ length rest + 5
long bytes rest tag len e = omega (arith, ap length e, length-append (uint32 len) rest, length-uint32 len)

pub bounded : ((bytes : List ℕ) (header : BeginsWithHeader bytes) → header_of bytes ≡ Some (header.tag, header.len))
    → (limit : ℕ) (bytes : List ℕ) → is_longer limit bytes ≡ false → IsPartial bytes → (length bytes ≤ 4) ⊎ (length bytes ≤ limit)
bounded spelled limit bytes h (inl short) = inl (omega (arith, short))
bounded spelled limit bytes h (inr part) =
    let fits : part.header.len ≤ limit = within limit part.header.len (sym (ap (longer limit) (spelled bytes part.header)) ∙ h) in
    let whole = long bytes part.header.rest part.header.tag part.header.len part.header.parts in
    inr (omega (arith, fits, whole, part.missing))
