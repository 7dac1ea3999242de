-- When a part has a cause.
use Rattle.pgp_base.proofs.Common.{◌≡◌, ℕ, ◌<◌, ◌≤◌, ◌^◌, Bool, true, false, List, [], ◌∷◌, ◌++◌, length, Some, None, refl, arith, inl, inr, sym, ◌∙◌, nat_le, ◌==◌, if◌then◌else◌, slice_index_or, list_any, Contains, le-leb, lt-leb, leb-true, eq-eqb, ne_eqb, cases_Bool, or_left, or_right, or_from, Cause, either, first, text_cause, length_cause, count_cause, Error, EmbeddedNull, TooLarge}
use Rattle.std.specs.Prelude.{zero, suc}

chosen_true : (b : Bool) (x y : Cause) → b ≡ true → (if b then x else y) ≡ x
chosen_true b x y e = rw e refl

chosen_false : (b : Bool) (x y : Cause) → b ≡ false → (if b then x else y) ≡ y
chosen_false b x y e = rw e refl

pub length_fits : (n : ℕ) → n < 2 ^ 31 → length_cause n ≡ None
length_fits n h = chosen_true (nat_le n 2147483647) None (Some TooLarge) (le-leb n 2147483647 (omega arith))

pub length_past : (n : ℕ) → 2 ^ 31 ≤ n → length_cause n ≡ Some TooLarge
length_past n h = chosen_false (nat_le n 2147483647) None (Some TooLarge) (lt-leb n 2147483647 (omega arith))

pub count_fits : (n : ℕ) → n < 65536 → count_cause n ≡ None
count_fits n h = chosen_true (nat_le n 65535) None (Some TooLarge) (le-leb n 65535 (omega arith))

pub count_past : (n : ℕ) → 65535 < n → count_cause n ≡ Some TooLarge
count_past n h = chosen_false (nat_le n 65535) None (Some TooLarge) (lt-leb n 65535 (omega arith))

pub fits_of : (n : ℕ) → length_cause n ≡ None → n < 2 ^ 31
fits_of n h = elim (cases_Bool (nat_le n 2147483647)) [ inl t ↦ omega (arith, leb-true n 2147483647 t) | inr f ↦ let e : Some TooLarge ≡ None = sym (chosen_false (nat_le n 2147483647) None (Some TooLarge) f) ∙ h in cc ]

pub counts_of : (n : ℕ) → count_cause n ≡ None → n < 65536
counts_of n h = elim (cases_Bool (nat_le n 65535)) [ inl t ↦ omega (arith, leb-true n 65535 t) | inr f ↦ let e : Some TooLarge ≡ None = sym (chosen_false (nat_le n 65535) None (Some TooLarge) f) ∙ h in cc ]

zero_at : (z : List ℕ) (k : ℕ) → k < length z → slice_index_or z k 0 ≡ 0 → list_any (λ byte. byte == 0) z ≡ true
zero_at [] k h e = absurd (omega arith)
zero_at (b ∷ z) zero h e = or_left (b == 0) (list_any (λ byte. byte == 0) z) (eq-eqb b 0 e)
zero_at (b ∷ z) (suc k) h e = or_right (b == 0) (list_any (λ byte. byte == 0) z) (zero_at z k (omega arith) e)

has_zero : (z : List ℕ) → Contains z 0 → list_any (λ byte. byte == 0) z ≡ true
has_zero z h = zero_at z h.0 h.1 h.2

no_zero : (z : List ℕ) → ¬ Contains z 0 → list_any (λ byte. byte == 0) z ≡ false
no_zero [] h = refl
no_zero (b ∷ z) h = or_from (b == 0) (list_any (λ byte. byte == 0) z) (ne_eqb b 0 (λ e. h (0, omega arith, e))) (no_zero z (λ c. h (suc c.0, omega (arith, c.1), c.2)))

pub text_holds_zero : (z : List ℕ) → Contains z 0 → text_cause z ≡ Some EmbeddedNull
text_holds_zero z h = chosen_true (list_any (λ byte. byte == 0) z) (Some EmbeddedNull) None (has_zero z h)

pub text_clean : (z : List ℕ) → ¬ Contains z 0 → text_cause z ≡ None
text_clean z h = chosen_false (list_any (λ byte. byte == 0) z) (Some EmbeddedNull) None (no_zero z h)

pub clean_of : (z : List ℕ) → text_cause z ≡ None → ¬ Contains z 0
clean_of z e = λ h. let k : Some EmbeddedNull ≡ None = sym (text_holds_zero z h) ∙ e in cc

-- Causes in a row.

pub either_left : (c d : Cause) → either c d ≡ None → c ≡ None
either_left None d h = refl
either_left (Some e) d h = h

pub either_right : (c d : Cause) → either c d ≡ None → d ≡ None
either_right None d h = h
either_right (Some e) d h = let k : Some e ≡ None = h in cc

pub either_none : (c d : Cause) → c ≡ None → d ≡ None → either c d ≡ None
either_none c d h k = rw (h, k) refl

pub either_first : (c d : Cause) (e : Error) → c ≡ Some e → either c d ≡ Some e
either_first c d e h = rw h refl

pub either_then : (c d : Cause) → c ≡ None → either c d ≡ d
either_then c d h = rw h refl

pub first-append : (cs ds : List Cause) → first (cs ++ ds) ≡ either (first cs) (first ds)
first-append [] ds = refl
first-append (Some e ∷ cs) ds = refl
first-append (None ∷ cs) ds = first-append cs ds

pub first_more : (cs : List Cause) (c : Cause) → first cs ≡ None → c ≡ None → first (cs ++ c ∷ []) ≡ None
first_more cs c h k = first-append cs (c ∷ []) ∙ either_none (first cs) (first (c ∷ [])) h (either_none c None k refl)

pub first_here : (cs : List Cause) (c : Cause) (ds : List Cause) (e : Error) → first cs ≡ None → c ≡ Some e → first (cs ++ c ∷ ds) ≡ Some e
first_here cs c ds e h k = first-append cs (c ∷ ds) ∙ (either_then (first cs) (first (c ∷ ds)) h ∙ either_first c (first ds) e k)

-- no byte of such a text is 0
pub zero_free : (z : List ℕ) → text_cause z ≡ None → list_any (λ byte. byte == 0) z ≡ false
zero_free z h = elim (cases_Bool (list_any (λ byte. byte == 0) z)) [ inl t ↦ let e : Some EmbeddedNull ≡ None = sym (chosen_true (list_any (λ byte. byte == 0) z) (Some EmbeddedNull) None t) ∙ h in cc | inr f ↦ f ]
