-- What one character is mapped to, as bytes.
use Rattle.pgp_saslprep.proofs.Common.{◌≡◌, ℕ, true, false, [], ◌∷◌, refl, encode_utf8_all, append-nil, in_table, b_1, c_1_2, mapped_char, mapped_text}
use Rattle.std.specs.Char.{encode_utf8}

pub as_space : (c : ℕ) → in_table c_1_2 c ≡ true → encode_utf8_all (mapped_text (c ∷ [])) ≡ encode_utf8 32
unfolding mapped_char encode_utf8
as_space c yes_ = rw yes_ refl

pub as_nothing : (c : ℕ) → in_table c_1_2 c ≡ false → in_table b_1 c ≡ true → encode_utf8_all (mapped_text (c ∷ [])) ≡ []
unfolding mapped_char
as_nothing c no_ yes_ = rw (no_, yes_) refl

pub as_itself : (c : ℕ) → in_table c_1_2 c ≡ false → in_table b_1 c ≡ false → encode_utf8_all (mapped_text (c ∷ [])) ≡ encode_utf8 c
unfolding mapped_char
as_itself c no_ not_ = rw (no_, not_) (append-nil (encode_utf8 c))
