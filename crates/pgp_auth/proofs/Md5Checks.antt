-- What is compared with a stored MD5 text.
use Rattle.pgp_auth.proofs.Common.{◌≡◌, ◌≢◌, ◌==◌, ℕ, Bool, false, List, ◌++◌, length, codes, refl, sym, ap, ◌∙◌, arith, ◌↔◌, IsTrue, eqb-true, eq-eqb, append_cancel_left, encode_lower, lower_digits, length-encode_with, md5, md5_text, md5_verifier, md5_answer, AnswersStored}
use Rattle.md5.proofs.StandardFacts.{length-md5}

pub other_front : (text digits : List ℕ) → ((rest : List ℕ) → text ≢ codes "md5" ++ rest) → (IsTrue false ↔ (text ≡ codes "md5" ++ digits))
other_front text digits none = (λ bad. cc, λ is. absurd (none digits is))

pub other_length : (text digits rest : List ℕ) → text ≡ codes "md5" ++ rest → length digits ≡ 32 → length rest ≢ 32 → (IsTrue false ↔ (text ≡ codes "md5" ++ digits))
other_length text digits rest is len other =
    (λ bad. cc, λ same. absurd (other (ap (λ (l : List ℕ). length l) (append_cancel_left (codes "md5") rest digits (sym is ∙ same)) ∙ len)))

pub digits_compared : (text digits rest : List ℕ) (far : ℕ) → text ≡ codes "md5" ++ rest → ((far ≡ 0) ↔ (rest ≡ digits)) → (IsTrue (far == 0) ↔ (text ≡ codes "md5" ++ digits))
digits_compared text digits rest far is h = (
  λ yes_. is ∙ ap (λ l. codes "md5" ++ l) (h.0 (eqb-true far 0 yes_)),
  λ same. eq-eqb far 0 (h.1 (append_cancel_left (codes "md5") rest digits (sym is ∙ same))),
)

-- ---- an answer

pub not_stored : (stored salt answer : List ℕ) → ((rest : List ℕ) → stored ≢ codes "md5" ++ rest) → (IsTrue false ↔ AnswersStored stored salt answer)
not_stored stored salt answer none = (λ bad. cc, λ a. absurd (none a.digits a.stored_is))

pub not_digits : (stored salt answer digits : List ℕ) → stored ≡ codes "md5" ++ digits → length digits ≢ 32 → (IsTrue false ↔ AnswersStored stored salt answer)
not_digits stored salt answer digits is other =
    (λ bad. cc, λ a. absurd (other (ap (λ (l : List ℕ). length l) (append_cancel_left (codes "md5") digits a.digits (sym is ∙ a.stored_is)) ∙ a.len)))

answer_of : (stored salt answer digits : List ℕ) → stored ≡ codes "md5" ++ digits → AnswersStored stored salt answer → answer ≡ md5_text (digits ++ salt)
answer_of stored salt answer digits is a =
    let same : a.digits ≡ digits = append_cancel_left (codes "md5") a.digits digits (sym a.stored_is ∙ is) in
    a.answer_is ∙ ap (λ l. md5_text (l ++ salt)) same

pub answer_compared : (stored salt answer digits shown : List ℕ) (b : Bool) → stored ≡ codes "md5" ++ digits → length digits ≡ 32 → shown ≡ encode_lower (md5 (digits ++ salt))
    → (IsTrue b ↔ (answer ≡ codes "md5" ++ shown)) → (IsTrue b ↔ AnswersStored stored salt answer)
unfolding md5_text
answer_compared stored salt answer digits shown b is len shown_is h = (
  λ yes_. record { digits = digits; stored_is = is; len = len; answer_is = h.0 yes_ ∙ ap (λ l. codes "md5" ++ l) shown_is },
  λ a. h.1 (answer_of stored salt answer digits is a ∙ ap (λ l. codes "md5" ++ l) (sym shown_is)),
)

digits_len : (message : List ℕ) → length (encode_lower (md5 message)) ≡ 32
digits_len message =
    let twice = length-encode_with lower_digits (md5 message) in
    let len = length-md5 message in
    omega arith

pub answer_reported : (password user salt answer : List ℕ) → (AnswersStored (md5_verifier password user) salt answer ↔ (answer ≡ md5_answer user password salt))
unfolding md5_text
answer_reported password user salt answer = (
  λ a. answer_of (md5_verifier password user) salt answer (encode_lower (md5 (password ++ user))) refl a,
  λ is. record { digits = encode_lower (md5 (password ++ user)); stored_is = refl; len = digits_len (password ++ user); answer_is = is },
)
