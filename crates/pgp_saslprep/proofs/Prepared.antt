-- What the steps of the preparation come to, as characters and as bytes.
use Rattle.pgp_saslprep.proofs.Common.{◌≡◌, ℕ, Bool, true, false, List, Option, Some, refl, sym, ap, ◌∙◌, encode_utf8_all, chars, IsUtf8, chars_from_encodes, nfkc, a_1, mapped_text, has, is_refused, prepared_text, prepared_bytes}
use Rattle.std.proofs.Common.{None}

module _ (text mapped : List ℕ) (mapped_utf8 : IsUtf8 mapped) (m : mapped ≡ encode_utf8_all (mapped_text (chars text))) where
  mapped_chars : chars mapped ≡ mapped_text (chars text)
  mapped_chars = sym (chars_from_encodes (mapped_text (chars text)) mapped mapped_utf8 (sym m))

  assigned : (b : Bool) → has a_1 (chars mapped) ≡ b → has a_1 (mapped_text (chars text)) ≡ b
  assigned b h = ap (λ cs. has a_1 cs) (sym mapped_chars) ∙ h

  -- an unassigned code point is rejected at once
  pub unassigned_text : has a_1 (chars mapped) ≡ true → (let none : Option (List ℕ) = None in none ≡ prepared_bytes text)
  unfolding prepared_text
  unassigned_text h = rw (assigned true h) refl

  module _ (all_assigned : has a_1 (chars mapped) ≡ false) (normal : List ℕ) (normal_utf8 : IsUtf8 normal) (n : normal ≡ encode_utf8_all (nfkc (chars mapped))) where
    refused : (b : Bool) → is_refused (chars normal) ≡ b → is_refused (nfkc (mapped_text (chars text))) ≡ b
    refused b h = ap is_refused (sym (sym (chars_from_encodes (nfkc (chars mapped)) normal normal_utf8 (sym n)) ∙ ap nfkc mapped_chars)) ∙ h

    pub refused_text : is_refused (chars normal) ≡ true → (let none : Option (List ℕ) = None in none ≡ prepared_bytes text)
    unfolding prepared_text
    refused_text h = rw (assigned false all_assigned, refused true h) refl

    pub kept_text : is_refused (chars normal) ≡ false → Some normal ≡ prepared_bytes text
    unfolding prepared_text
    kept_text h = rw (assigned false all_assigned, refused false h) (ap (λ (bytes : List ℕ). Some bytes) (n ∙ ap (λ cs. encode_utf8_all (nfkc cs)) mapped_chars))
