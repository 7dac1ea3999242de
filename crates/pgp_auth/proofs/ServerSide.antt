-- A server accepts what the client computes.
use Rattle.pgp_auth.proofs.Common.{◌≡◌, ℕ, zero, suc, ◌<◌, List, [], ◌∷◌, ◌++◌, length, refl, sym, ap, ◌∙◌, arith, bit_xor, slice_index, length-zip2, xor_of_8, xor_assoc, xor_self, xor_zero_r, sha256, digest_bytes, length-sha256, IsBytes, mac, xor_bytes, client_key, client_proof}
use Rattle.std.specs.Int.{w32, to_be_bytes}

-- xor by the same byte twice
xor_back : (a b : ℕ) → bit_xor (bit_xor a b) b ≡ a
xor_back a b = xor_assoc a b b ∙ ap (λ x. bit_xor a x) (xor_self b) ∙ xor_zero_r a

-- xor by the same bytes twice gives the bytes back
pub xor_bytes_back : (a b : List ℕ) → length a ≡ length b → xor_bytes (xor_bytes a b) b ≡ a
xor_bytes_back [] b e = refl
xor_bytes_back (x ∷ a) [] e = cc
xor_bytes_back (x ∷ a) (y ∷ b) e =
    let tails : length a ≡ length b = omega arith in
    rw (xor_back x y, xor_bytes_back a b tails) refl

pub length-mac : (k m : List ℕ) → length (mac k m) ≡ 32
unfolding mac
length-mac k m = length-sha256 _

pub length-client_proof : (k auth : List ℕ) → length (client_proof k auth) ≡ 32
length-client_proof k auth =
    let same : length (client_key k) ≡ length (mac (sha256 (client_key k)) auth) = length-mac _ _ ∙ sym (length-mac _ _) in
    length-zip2 bit_xor (client_key k) (mac (sha256 (client_key k)) auth) same ∙ length-mac _ _

-- the key that the server recovers from the proof
pub recovers : (k auth : List ℕ)
    → sha256 (xor_bytes (client_proof k auth) (mac (sha256 (client_key k)) auth)) ≡ sha256 (client_key k)
recovers k auth =
    let same : length (client_key k) ≡ length (mac (sha256 (client_key k)) auth) = length-mac _ _ ∙ sym (length-mac _ _) in
    rw (xor_bytes_back (client_key k) (mac (sha256 (client_key k)) auth) same) refl

-- ---- digests are bytes

word_bytes : (n : ℕ) → IsBytes (to_be_bytes w32 n)
word_bytes n zero = omega arith
word_bytes n (suc zero) = omega arith
word_bytes n (suc (suc zero)) = omega arith
word_bytes n (suc (suc (suc zero))) = omega arith
word_bytes n (suc (suc (suc (suc i)))) = omega arith

joined_bytes : (a b : List ℕ) → IsBytes a → IsBytes b → (i : ℕ) → slice_index (a ++ b) i < 256
joined_bytes [] b first second i = second i
joined_bytes (x ∷ a) b first second zero = first zero
joined_bytes (x ∷ a) b first second (suc i) = joined_bytes a b (λ j. first (suc j)) second i

digest_are_bytes : (h : List ℕ) (n : ℕ) → IsBytes (digest_bytes h n)
unfolding digest_bytes
digest_are_bytes h zero = λ i. omega arith
digest_are_bytes h (suc n) = joined_bytes (digest_bytes h n) (to_be_bytes w32 (slice_index h n)) (digest_are_bytes h n) (word_bytes _)

pub sha256_bytes : (m : List ℕ) → IsBytes (sha256 m)
unfolding sha256
sha256_bytes m = digest_are_bytes _ 8

pub mac_bytes : (k m : List ℕ) → IsBytes (mac k m)
unfolding mac
mac_bytes k m = sha256_bytes _

pub xor_are_bytes : (a b : List ℕ) → length a ≡ length b → IsBytes a → IsBytes b → (i : ℕ) → slice_index (xor_bytes a b) i < 256
xor_are_bytes [] b e first second i = omega arith
xor_are_bytes (x ∷ a) [] e first second i = cc
xor_are_bytes (x ∷ a) (y ∷ b) e first second zero = xor_of_8 x y (first zero) (second zero)
xor_are_bytes (x ∷ a) (y ∷ b) e first second (suc i) =
    let tails : length a ≡ length b = omega arith in
    xor_are_bytes a b tails (λ j. first (suc j)) (λ j. second (suc j)) i

pub proof_bytes : (k auth : List ℕ) → IsBytes (client_proof k auth)
proof_bytes k auth =
    let same : length (client_key k) ≡ length (mac (sha256 (client_key k)) auth) = length-mac _ _ ∙ sym (length-mac _ _) in
    xor_are_bytes (client_key k) (mac (sha256 (client_key k)) auth) same (mac_bytes _ _) (mac_bytes _ _)
