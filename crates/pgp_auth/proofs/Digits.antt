-- Hex digits are text.
use Rattle.pgp_auth.proofs.Common.{◌≡◌, ℕ, ◌<◌, true, List, [], ◌∷◌, refl, arith, nat_lt, list_all, IsUtf8, IsAscii, IsOk, MatchResult, and_parts, nat_tests, IsUtf8-from_ascii, IsAscii-nil, IsAscii-cons, encode_lower, lower_digits, IsAscii-encode_with}
use Rattle.std.specs.Prelude.{Result, Ok, Err}

low_byte : (b : ℕ) → nat_lt b 128 ≡ true → b < 128
low_byte b low = grind (arith, nat_tests)

all_low : (bytes : List ℕ) → list_all (λ b. nat_lt b 128) bytes ≡ true → IsAscii bytes
all_low [] low = IsAscii-nil
all_low (b ∷ bytes) low =
    let parts = and_parts (nat_lt b 128) (list_all (λ b. nat_lt b 128) bytes) low in
    IsAscii-cons b bytes (low_byte b parts.0) (all_low bytes parts.1)

pub digits_are_text : (bytes : List ℕ) → IsUtf8 (encode_lower bytes)
digits_are_text bytes = IsUtf8-from_ascii (encode_lower bytes) (IsAscii-encode_with lower_digits bytes (all_low lower_digits refl))

-- a test of text passes on text
pub text_passes : {T E : Type 0} (P : T → Type 0) (Q : E → Type 0) (bytes : List ℕ) (r : Result T E) → IsUtf8 bytes
    → MatchResult r (λ s. P s × IsUtf8 bytes) (λ e. ¬ (IsUtf8 bytes) × Q e) → IsOk r
text_passes P Q bytes (Ok s) text cases = refl
text_passes P Q bytes (Err e) text cases = absurd (cases.0 text)
