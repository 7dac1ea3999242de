-- The base64 text of a GS2 header and that of the data after it stand side by side: each header is a whole
-- number of groups of three bytes.
use Rattle.pgp_auth.proofs.Common.{◌≡◌, ℕ, ◌+◌, ◌-◌, ◌*◌, ◌%◌, List, ◌++◌, length, replicate, refl, ◌∙◌, ap, length-append, encode_symbols, padding_len, standard, base64, Binding, Unsupported, Unrequested, TlsServerEndPoint, gs2_header}
use Rattle.std.proofs.Math.Nat.{mul-add-mod_self_left}

-- the text of a header and data, padded for this many bytes
padded : Binding → List ℕ → ℕ → List ℕ
padded binding data_ n = base64 (gs2_header binding) ++ (encode_symbols standard.encode_table data_ ++ replicate (padding_len n) 61)

same_padding : (binding : Binding) (data_ : List ℕ) (groups : ℕ) → length (gs2_header binding) ≡ 3 * groups → padded binding data_ (length (gs2_header binding ++ data_)) ≡ padded binding data_ (length data_)
unfolding padded
same_padding binding data_ groups whole =
    ap (padded binding data_) (length-append (gs2_header binding) data_ ∙ ap (λ n. n + length data_) whole)
    ∙ ap (λ k. base64 (gs2_header binding) ++ (encode_symbols standard.encode_table data_ ++ replicate ((3 - k) % 3) 61)) (mul-add-mod_self_left 3 groups (length data_))

pub encoded_apart : (binding : Binding) (data_ : List ℕ) → base64 (gs2_header binding ++ data_) ≡ base64 (gs2_header binding) ++ base64 data_
unfolding encode_symbols padded
encoded_apart Unsupported data_ = same_padding Unsupported data_ 1 refl
encoded_apart Unrequested data_ = same_padding Unrequested data_ 1 refl
encoded_apart (TlsServerEndPoint signature) data_ = same_padding (TlsServerEndPoint signature) data_ 8 refl
