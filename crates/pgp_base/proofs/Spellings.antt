-- What the functions of `reading` give is what the writers spell.
use Rattle.pgp_base.proofs.Common.{◌≡◌, ◌≢◌, ◌⊎◌, ℕ, zero, suc, ◌<◌, ◌^◌, List, [], ◌∷◌, ◌++◌, Option, Some, None, Err, refl, sym, ap, subst, ◌∙◌, arith, inl, inr, Contains, IsUtf8, Error, UnexpectedEof, NotUtf8, text_cause, front_at, byte_at, string_at, text_at, BeginsNoOther, ReadsSpelling, ReadsTexts, TextStands, text, HasNoZero, IsBytes}
use Rattle.pgp_base.proofs.Causes.{text_clean, clean_of}
use Rattle.pgp_base.proofs.PartLemmas.{IsNumber, number_takes, number_again, text_read, TextFound, text_found, some_none}
use Rattle.pgp_base.proofs.Prefixes.{fronts}
use Rattle.pgp_base.proofs.Strings.{IsString, some_is, string_takes, string_front, string_whole}

-- a reader that gives what is spelled gives nothing where nothing is
none_there : {A : Type 0} (Has : A → Type 0) (spelling : A → List ℕ) (read : List ℕ → Option (A × List ℕ)) → ((x : A) (rest : List ℕ) → Has x → read (spelling x ++ rest) ≡ Some (x, rest))
    → (bytes : List ℕ) (x : A) (rest : List ℕ) → read bytes ≡ None → Has x → bytes ≢ spelling x ++ rest
none_there Has spelling read again bytes x rest none has whole =
    some_none (x, rest) (sym (again x rest has) ∙ (ap read (sym whole) ∙ none))

module _ {A : Type 0} (n : ℕ) (Fits : A → Type 0) (spell : A → List ℕ) (value : List ℕ → A) (number : IsNumber n Fits spell value) where
  pub number_begins : BeginsNoOther Fits spell
  number_begins a b x y h k e =
      let r = fronts (spell a) (spell b) x y (number.len a ∙ sym (number.len b)) e in
      (sym (number.back a h) ∙ (ap value r.0 ∙ number.back b k), r.1)

  pub number_reads : ReadsSpelling Fits spell (front_at n value)
  number_reads = record {
    found = λ bytes x rest h e. let t = number_takes n Fits spell value number bytes (x, rest) h e in (t.fits, t.parts);
    again = number_again n Fits spell value number;
    none = none_there Fits spell (front_at n value) (number_again n Fits spell value number);
  }

byte_found : (bytes : List ℕ) (x : ℕ) (rest : List ℕ) → IsBytes bytes → byte_at bytes ≡ Some (x, rest) → (x < 2 ^ 8) × (bytes ≡ (x ∷ []) ++ rest)
byte_found [] x rest h e = absurd cc
byte_found (b ∷ bytes) x rest h e =
    let same = some_is (b, bytes) (x, rest) e in
    let is : b ≡ x = ap (λ p. p.0) same in
    let left : bytes ≡ rest = ap (λ p. p.1) same in
    (omega (arith, h 0, is), rw (is, left) refl)

pub byte_reads : ReadsSpelling (λ n. n < 2 ^ 8) (λ n. n ∷ []) byte_at
byte_reads = record {
  found = byte_found;
  again = λ x rest h. refl;
  none = none_there (λ n. n < 2 ^ 8) (λ n. n ∷ []) byte_at (λ x rest h. refl);
}

-- a text without a 0 has no cause, and the other way round
contained : (z : List ℕ) → HasNoZero z → Contains z 0 → ⊥
contained [] none h = omega (arith, h.1)
contained (b ∷ z) none (zero, lt, is) = none.0 is
contained (b ∷ z) none (suc k, lt, is) = contained z none.1 (k, omega (arith, lt), is)

pub no_cause : (z : List ℕ) → HasNoZero z → text_cause z ≡ None
no_cause z none = text_clean z (contained z none)

not_contained : (z : List ℕ) → (Contains z 0 → ⊥) → HasNoZero z
not_contained [] none = tt
not_contained (b ∷ z) none = (λ e. none (0, omega arith, e), not_contained z (λ h. none (suc h.0, omega (arith, h.1), h.2)))

pub without_zero : (z : List ℕ) → text_cause z ≡ None → HasNoZero z
without_zero z e = not_contained z (clean_of z e)

stands : (bytes z rest : List ℕ) → IsString bytes z rest → TextStands bytes z rest
stands bytes z rest s = record { has = no_cause z s.no_zero; whole = string_whole bytes z rest s.parts }

string_again : (z rest : List ℕ) → text_cause z ≡ None → string_at (text z ++ rest) ≡ Some (z, rest)
string_again z rest h = string_front z rest (without_zero z h)

pub string_reads : ReadsSpelling (λ z. text_cause z ≡ None) text string_at
string_reads = record {
  found = λ bytes z rest h e. let t = stands bytes z rest (string_takes bytes (z, rest) e) in (t.has, t.whole);
  again = string_again;
  none = none_there (λ z. text_cause z ≡ None) text string_at string_again;
}

refused_text : (bytes : List ℕ) (e : Error) → TextFound bytes (Err e) → ((e ≡ UnexpectedEof) × HasNoZero bytes) ⊎ ((e ≡ NotUtf8) × ((z rest : List ℕ) × TextStands bytes z rest × (IsUtf8 z → ⊥)))
refused_text bytes UnexpectedEof h = inl (refl, h)
refused_text bytes NotUtf8 h = inr (refl, (h.string, h.rest, stands bytes h.string h.rest h.parts, h.bad))
refused_text bytes _ h = absurd h

pub text_reads : ReadsTexts text_at
text_reads = record {
  found = λ bytes z rest e. let t = subst (TextFound bytes) e (text_found bytes) in (stands bytes z rest t.0, t.1);
  again = λ bytes z rest t utf8. text_read bytes z rest (ap string_at t.whole ∙ string_again z rest t.has) utf8;
  refused = λ bytes e is. refused_text bytes e (subst (TextFound bytes) is (text_found bytes));
}
