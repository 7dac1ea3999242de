-- The key that is made of a password by iterated codes: RFC 8018, section 5.2 (PBKDF2), for one block,
-- with HMAC over SHA-256; RFC 5802 calls it Hi.
use Rattle.std.specs.Prelude.{ℕ, zero, suc, ◌-◌, List, ◌++◌, bit_xor}
use Rattle.std.specs.Simd.Lanes.{zip2}
use Rattle.pgp_base.specs.Wire.{uint32}
use Rattle.pgp_auth.specs.Hmac.{mac}

-- two lists of one length, xor byte by byte
abbrev pub xor_bytes : List ℕ → List ℕ → List ℕ
xor_bytes = zip2 bit_xor

-- the RFC's U_1, U_2, .., counted from 0: the code of the salt and the block's number 1, and then of
-- the code before
unfoldable pub nth_code : List ℕ → List ℕ → ℕ → List ℕ
nth_code password salt zero = mac password (salt ++ uint32 1)
nth_code password salt (suc n) = mac password (nth_code password salt n)

-- U_1 xor .. xor U_(n + 1)
unfoldable pub xor_of_codes : List ℕ → List ℕ → ℕ → List ℕ
xor_of_codes password salt zero = nth_code password salt zero
xor_of_codes password salt (suc n) = xor_bytes (xor_of_codes password salt n) (nth_code password salt (suc n))

-- the key of `count` rounds: U_1 xor .. xor U_count, and U_1 for a count of 0
abbrev pub salted : List ℕ → List ℕ → ℕ → List ℕ
salted password salt count = xor_of_codes password salt (count - 1)
