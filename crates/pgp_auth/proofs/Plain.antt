-- No byte of a verifier needs an escape.
use Rattle.pgp_auth.proofs.Common.{inl, inr, ◌≡◌, ◌≢◌, ℕ, zero, suc, ◌+◌, ◌*◌, ◌/◌, ◌%◌, ◌<◌, ◌==◌, ◌&&◌, Bool, true, false, not, List, [], ◌∷◌, ◌++◌, length, replicate, slice_index, refl, arith, All, codes, nat_lt, decimal, digits, digits_onto, digit_glyph, list_all, nat_tests, cases_Bool, and_parts, eq-eqb, All-nil, All-cons, All-append, All-replicate, All-from_get_or, encode_symbols, encode_group, padding_len, standard, encode_with, encode_lower, lower_digits, md5, base64, NeedsNoEscape, md5_text, Verifier, verifier_text}
use Rattle.std.proofs.lemmas.Bool.{false≢true}

is_plain : ℕ → Bool
is_plain b = not (b == 39) && not (b == 92)

differs : (b q : ℕ) → not (b == q) ≡ true → b ≢ q
differs b q test same = false≢true (rw (eq-eqb b q same) at test)

plain : (b : ℕ) → is_plain b ≡ true → NeedsNoEscape b
unfolding is_plain
plain b test =
    let parts = and_parts (not (b == 39)) (not (b == 92)) test in
    (differs b 39 parts.0, differs b 92 parts.1)

-- of bytes that need no escape, each place, and a place past the end
each : (bytes : List ℕ) → list_all is_plain bytes ≡ true → (i : ℕ) → NeedsNoEscape (slice_index bytes i)
unfolding is_plain
each [] test i = plain 0 refl
each (b ∷ bytes) test zero = plain b (and_parts (is_plain b) (list_all is_plain bytes) test).0
each (b ∷ bytes) test (suc i) = each bytes (and_parts (is_plain b) (list_all is_plain bytes) test).1 i

all : (bytes : List ℕ) → list_all is_plain bytes ≡ true → All NeedsNoEscape bytes
all bytes test = All-from_get_or NeedsNoEscape bytes 0 (λ i lt. each bytes test i)

module _ (t : List ℕ) (symbols : (i : ℕ) → NeedsNoEscape (slice_index t i)) where
  two : (i j : ℕ) → All NeedsNoEscape (slice_index t i ∷ slice_index t j ∷ [])
  two i j = All-cons NeedsNoEscape (slice_index t i) (slice_index t j ∷ []) (symbols i) (All-cons NeedsNoEscape (slice_index t j) [] (symbols j) (All-nil NeedsNoEscape))

  three : (i j k : ℕ) → All NeedsNoEscape (slice_index t i ∷ slice_index t j ∷ slice_index t k ∷ [])
  three i j k = All-cons NeedsNoEscape (slice_index t i) (slice_index t j ∷ slice_index t k ∷ []) (symbols i) (two j k)

  four : (i j k l : ℕ) → All NeedsNoEscape (slice_index t i ∷ slice_index t j ∷ slice_index t k ∷ slice_index t l ∷ [])
  four i j k l = All-cons NeedsNoEscape (slice_index t i) (slice_index t j ∷ slice_index t k ∷ slice_index t l ∷ []) (symbols i) (three j k l)

  encoded : (m : List ℕ) → All NeedsNoEscape (encode_symbols t m)
  unfolding encode_symbols
  encoded [] = All-nil NeedsNoEscape
  encoded (a ∷ []) = two (a / 4) (a % 4 * 16)
  encoded (a ∷ b ∷ []) = three (a / 4) (a % 4 * 16 + b / 16) (b % 16 * 4)
  encoded (a ∷ b ∷ c ∷ rest) =
      All-append NeedsNoEscape (encode_group t a b c) (encode_symbols t rest) (four (a / 4) (a % 4 * 16 + b / 16) (b % 16 * 4 + c / 64) (c % 64)) (encoded rest)

  hex_digits : (m : List ℕ) → All NeedsNoEscape (encode_with t m)
  unfolding encode_with
  hex_digits [] = All-nil NeedsNoEscape
  hex_digits (b ∷ rest) =
      All-append NeedsNoEscape (slice_index t (b / 16) ∷ slice_index t (b % 16) ∷ []) (encode_with t rest) (two (b / 16) (b % 16)) (hex_digits rest)

plain_base64 : (m : List ℕ) → All NeedsNoEscape (base64 m)
unfolding is_plain
plain_base64 m =
    All-append NeedsNoEscape (encode_symbols standard.encode_table m) (replicate (padding_len (length m)) 61) (encoded standard.encode_table (each standard.encode_table refl) m)
    (All-replicate NeedsNoEscape (padding_len (length m)) 61 (plain 61 refl))

plain_digit : (d : ℕ) → d < 10 → NeedsNoEscape (digit_glyph false d)
plain_digit d low =
    let small : nat_lt d 10 ≡ true = grind (arith, nat_tests) in
    rw small (λ e. omega arith, λ e. omega arith)

plain_digits : (k n : ℕ) (more : List ℕ) → All NeedsNoEscape more → All NeedsNoEscape (digits_onto k 10 false n more)
plain_digits zero n more rest = rest
plain_digits (suc k) n more rest =
    let glyph = digit_glyph false (n % 10) in
    let next = All-cons NeedsNoEscape glyph more (plain_digit (n % 10) (omega arith)) rest in
    elim (cases_Bool (n / 10 == 0)) [
      | inl last ↦ rw last next
      | inr on ↦ rw on (plain_digits k (n / 10) (glyph ∷ more) next)
    ]

plain_decimal : (n : ℕ) → All NeedsNoEscape (decimal n)
unfolding digits
plain_decimal n = plain_digits 64 n [] (All-nil NeedsNoEscape)

joined : (a b : List ℕ) → All NeedsNoEscape a → All NeedsNoEscape b → All NeedsNoEscape (a ++ b)
joined a b = All-append NeedsNoEscape a b

pub plain_verifier : (v : Verifier) → All NeedsNoEscape (verifier_text v)
unfolding is_plain verifier_text
plain_verifier v =
    let name = codes "SCRAM-SHA-256$" in
    let named = joined name (decimal v.count) (all name refl) (plain_decimal v.count) in
    let front = name ++ decimal v.count ++ codes ":" in
    let counted = joined (name ++ decimal v.count) (codes ":") named (all (codes ":") refl) in
    let one = front ++ base64 v.salt in
    let two_parts = one ++ codes "$" in
    let three_parts = two_parts ++ base64 v.stored_key in
    let four_parts = three_parts ++ codes ":" in
    let first = joined front (base64 v.salt) counted (plain_base64 v.salt) in
    let second = joined one (codes "$") first (all (codes "$") refl) in
    let third = joined two_parts (base64 v.stored_key) second (plain_base64 v.stored_key) in
    let fourth = joined three_parts (codes ":") third (all (codes ":") refl) in
    joined four_parts (base64 v.server_key) fourth (plain_base64 v.server_key)

pub plain_md5 : (message : List ℕ) → All NeedsNoEscape (md5_text message)
unfolding is_plain md5_text
plain_md5 message =
    All-append NeedsNoEscape (codes "md5") (encode_lower (md5 message)) (all (codes "md5") refl) (hex_digits lower_digits (each lower_digits refl) (md5 message))
