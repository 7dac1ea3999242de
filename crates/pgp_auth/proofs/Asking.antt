-- When the mapping of passwords is asked.
use Rattle.pgp_auth.proofs.Common.{◌≡◌, ℕ, zero, suc, ◌<◌, ◌≤◌, true, false, List, [], ◌∷◌, refl, arith, inl, inr, slice_index, Option, unwrap_or, nat_lt, list_any, is_utf8, IsUtf8, IsAscii, IsNotAscii, cases_Bool, nat_tests, is_utf8-from_IsUtf8, IsUtf8-from_is_utf8}
use Rattle.pgp_auth.specs.Prepared.{is_asked, prepared}

low_byte : (b : ℕ) → b < 128 → nat_lt 127 b ≡ false
low_byte b low = grind (arith, nat_tests)

high_byte : (b : ℕ) → 128 ≤ b → nat_lt 127 b ≡ true
high_byte b high = grind (arith, nat_tests)

none_high : (p : List ℕ) → IsAscii p → list_any (λ b. nat_lt 127 b) p ≡ false
none_high [] ascii = refl
none_high (b ∷ p) ascii = rw (low_byte b (ascii 0), none_high p (λ i. ascii (suc i))) refl

some_high : (p : List ℕ) (i : ℕ) → 128 ≤ slice_index p i → list_any (λ b. nat_lt 127 b) p ≡ true
some_high [] i high = absurd (omega arith)
some_high (b ∷ p) zero high = rw (high_byte b high) refl
some_high (b ∷ p) (suc i) high = elim (cases_Bool (nat_lt 127 b)) [
  | inl yes_ ↦ rw yes_ refl
  | inr no_ ↦ rw (no_, some_high p i high) refl
]

-- the password is ASCII
pub ascii : (mapping : List ℕ → Option (List ℕ)) (p : List ℕ) → IsAscii p → p ≡ prepared mapping p
unfolding prepared
ascii mapping p low = rw (none_high p low) refl

-- the password isn't text
pub not_text : (mapping : List ℕ → Option (List ℕ)) (p : List ℕ) → IsNotAscii p → ¬ (IsUtf8 p) → p ≡ prepared mapping p
unfolding prepared
not_text mapping p high no_text = elim (cases_Bool (is_utf8 p)) [
  | inl text ↦ absurd (no_text (IsUtf8-from_is_utf8 p text))
  | inr other ↦ rw (some_high p high.0 high.1, other) refl
]

-- the mapping is asked
pub asked : (mapping : List ℕ → Option (List ℕ)) (p text : List ℕ) (o : Option (List ℕ)) → IsNotAscii p → text ≡ p → IsUtf8 p → o ≡ mapping text
    → unwrap_or o p ≡ prepared mapping p
unfolding prepared
asked mapping p text o high same is_text answer =
    rw (answer, same, some_high p high.0 high.1, is_utf8-from_IsUtf8 p is_text) refl

pub is_reported : (p : List ℕ) → IsNotAscii p → IsUtf8 p → is_asked p ≡ true
is_reported p high is_text = rw (some_high p high.0 high.1, is_utf8-from_IsUtf8 p is_text) refl
