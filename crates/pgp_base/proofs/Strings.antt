-- The first 0 ends a string.
use Rattle.pgp_base.proofs.Common.{◌≡◌, ◌≢◌, ℕ, zero, suc, ◌+◌, ◌<◌, List, [], ◌∷◌, ◌++◌, length, get_or, take, drop, Option, Some, None, refl, sym, ap, ◌∙◌, arith, subst, append_assoc, take-append_seam, drop-append-add, text, HasNoZero, string_at, with_first}

pub string_found : (bytes : List ℕ) (k : ℕ) → k < length bytes → get_or bytes k 0 ≡ 0 → ((j : ℕ) → j < k → get_or bytes j 0 ≢ 0) → string_at bytes ≡ Some (take k bytes, drop (suc k) bytes)
unfolding string_at
string_found [] k lt is before = absurd (omega arith)
string_found (zero ∷ bytes) zero lt is before = refl
string_found (zero ∷ bytes) (suc k) lt is before = absurd (before 0 (omega arith) refl)
string_found (suc b ∷ bytes) zero lt is before = absurd (omega arith)
string_found (suc b ∷ bytes) (suc k) lt is before = rw (string_found bytes k (omega arith) is (λ j l. before (suc j) (omega arith))) refl

pub string_missing : (bytes : List ℕ) → ((j : ℕ) → j < length bytes → get_or bytes j 0 ≢ 0) → string_at bytes ≡ None
unfolding string_at
string_missing [] none = refl
string_missing (zero ∷ bytes) none = absurd (none 0 (omega arith) refl)
string_missing (suc b ∷ bytes) none = rw (string_missing bytes (λ j l. none (suc j) (omega arith))) refl

abbrev pub some : {A : Type 0} → A → Option A
some x = Some x

pub some_is : {A : Type 0} (x y : A) → some x ≡ some y → x ≡ y
some_is x y e = cc

with_first_some : (b : ℕ) (o : Option (List ℕ × List ℕ)) (x : List ℕ × List ℕ) → with_first b o ≡ Some x → (y : List ℕ × List ℕ) × (o ≡ Some y) × ((b ∷ y.0, y.1) ≡ x)
with_first_some b None x e = absurd cc
with_first_some b (Some y) x e = (y, refl, some_is (b ∷ y.0, y.1) x e)

-- a string is a text with no 0, and a 0 after it
pub record IsString (bytes text rest : List ℕ) : Type 0 where
  pub parts : bytes ≡ text ++ 0 ∷ rest
  pub no_zero : HasNoZero text

pub string_takes : (bytes : List ℕ) (x : List ℕ × List ℕ) → string_at bytes ≡ Some x → IsString bytes x.0 x.1
unfolding string_at
string_takes [] x e = absurd cc
string_takes (zero ∷ bytes) x e = subst (λ (y : List ℕ × List ℕ). IsString (0 ∷ bytes) y.0 y.1) (some_is ([], bytes) x e) (record { parts = refl; no_zero = tt })
string_takes (suc b ∷ bytes) x e =
    let w = with_first_some (suc b) (string_at bytes) x e in
    let tail = string_takes bytes w.0 w.1 in
    let nonzero : suc b ≢ 0 = λ z. omega arith in
    subst (λ (y : List ℕ × List ℕ). IsString (suc b ∷ bytes) y.0 y.1) w.2 (record { parts = ap (λ l. suc b ∷ l) tail.parts; no_zero = (nonzero, tail.no_zero) })

pub string_again : (text rest : List ℕ) → HasNoZero text → string_at (text ++ 0 ∷ rest) ≡ Some (text, rest)
unfolding string_at
string_again [] rest none = refl
string_again (zero ∷ text) rest none = absurd (none.0 refl)
string_again (suc b ∷ text) rest none = rw (string_again text rest none.1) refl

-- texts are cut from the bytes that hold them
pub first_text : (texts a rest : List ℕ) → texts ≡ a ++ 0 ∷ rest → take (length a) texts ≡ a
first_text texts a rest e = ap (take (length a)) e ∙ take-append_seam a (0 ∷ rest)

pub after_text : (texts a rest : List ℕ) → texts ≡ a ++ 0 ∷ rest → drop (length a + 1) texts ≡ rest
after_text texts a rest e = ap (drop (length a + 1)) e ∙ drop-append-add a (0 ∷ rest) 1

pub string_front : (z rest : List ℕ) → HasNoZero z → string_at (text z ++ rest) ≡ Some (z, rest)
string_front z rest none = ap string_at (append_assoc z (0 ∷ []) rest) ∙ string_again z rest none

pub string_whole : (bytes z rest : List ℕ) → bytes ≡ z ++ 0 ∷ rest → bytes ≡ text z ++ rest
string_whole bytes z rest e = e ∙ sym (append_assoc z (0 ∷ []) rest)
