-- A part that is read is the part that was written, and what was written is read again.
use Rattle.pgp_base.proofs.Common.{◌≡◌, ℕ, zero, suc, ◌+◌, ◌^◌, ◌<◌, ◌≤◌, Bool, true, false, cond, ltb, List, [], ◌∷◌, ◌++◌, length, take, drop, Option, Some, None, Result, Ok, Err, refl, sym, ap, subst, ◌∙◌, arith, inl, inr, w16, w32, w64, from_be_bytes, to_be_bytes, cast_signed, cast_unsigned, IsUtf8, is_utf8, cases_lt, ltb-false, ltb-true, le-ltb, lt-ltb, of_z-to_z, to_z-of_z, take_at, drop_at, take-append-drop, length-take, length-drop, get_or-drop, get_or-take, get_or_past, be_bytes_2, be_bytes_4, be_bytes_8, from_be_bytes-to_be_bytes_2, from_be_bytes-to_be_bytes_4, from_be_bytes-to_be_bytes_8, Error, UnexpectedEof, NotUtf8, int16, int32, int64, uint16, uint32, uint64, oid, HasNoZero, IsBytes, front_at, string_at, text_at, with_first}
use Rattle.std.proofs.Common.{FitsSigned, true≢false}
use Rattle.std.proofs.lemmas.Str.{IsUtf8-from_is_utf8, is_utf8-from_IsUtf8}
use Rattle.std.proofs.lemmas.List.{length-append}
use borrow.Author.Gap.{read_sfits}
use mir.Facts.{Fits-of_z}
use Rattle.pgp_base.proofs.Strings.{IsString, string_takes, some, some_is}
use Rattle.std.specs.Prelude.{ℤ}

pub IsBytes-drop : (n : ℕ) (bytes : List ℕ) → IsBytes bytes → IsBytes (drop n bytes)
IsBytes-drop n bytes h i = rw get_or-drop (h (n + i))

pub IsBytes-take : (n : ℕ) (bytes : List ℕ) → IsBytes bytes → IsBytes (take n bytes)
IsBytes-take n bytes h i =
    elim (cases_lt i n) [
      | inl lt ↦ rw (get_or-take n bytes i 0 lt) (h i)
      | inr le ↦ rw (get_or_past (take n bytes) i 0 (omega (arith, length-take n bytes))) (omega arith)
    ]

-- four bytes as a number with a sign
abbrev pub int32_value : List ℕ → ℤ
int32_value l = cast_signed w32 (from_be_bytes w32 l)

guard_some : {A : Type 0} (b : Bool) (x y : A) → cond b None (Some x) ≡ Some y → (b ≡ false) × (x ≡ y)
guard_some true x y e = absurd cc
guard_some false x y e = (refl, some_is x y e)

pub guard_none : {A : Type 0} (b : Bool) (x : A) → cond b None (Some x) ≡ None → b ≡ true
guard_none true x e = refl
guard_none false x e = absurd cc

-- a front of n bytes
pub front_takes : {A : Type 0} (n : ℕ) (value : List ℕ → A) (bytes : List ℕ) (x : A × List ℕ) → front_at n value bytes ≡ Some x
    → (n ≤ length bytes) × (x.0 ≡ value (take n bytes)) × (bytes ≡ take n bytes ++ x.1)
front_takes n value bytes x e =
    let g = guard_some (ltb (length bytes) n) (value (take n bytes), drop n bytes) x e in
    let rest : x.1 ≡ drop n bytes = sym (ap (λ p. p.1) g.1) in
    (ltb-false _ _ g.0, sym (ap (λ p. p.0) g.1), sym (take-append-drop n bytes) ∙ ap (λ l. take n bytes ++ l) (sym rest))

pub front_again : {A : Type 0} (n : ℕ) (value : List ℕ → A) (front rest : List ℕ) → length front ≡ n → front_at n value (front ++ rest) ≡ Some (value front, rest)
front_again n value front rest len =
    let long : ltb (length (front ++ rest)) n ≡ false = le-ltb _ _ (omega (arith, length-append front rest)) in
    rw (long, take_at front rest n len, drop_at front rest n len) refl

-- a number of n bytes: its spelling, which numbers have one, and the bytes back
pub record IsNumber {A : Type 0} (n : ℕ) (Fits : A → Type 0) (spell : A → List ℕ) (value : List ℕ → A) : Type 0 where
  pub len : (x : A) → length (spell x) ≡ n
  pub back : (x : A) → Fits x → value (spell x) ≡ x
  pub spelled : (front : List ℕ) → IsBytes front → length front ≡ n → spell (value front) ≡ front
  pub fits : (front : List ℕ) → IsBytes front → Fits (value front)

pub record TakesNumber {A : Type 0} (Fits : A → Type 0) (spell : A → List ℕ) (bytes : List ℕ) (x : A) (rest : List ℕ) : Type 0 where
  pub parts : bytes ≡ spell x ++ rest
  pub fits : Fits x
  pub tail : IsBytes rest

module _ {A : Type 0} (n : ℕ) (Fits : A → Type 0) (spell : A → List ℕ) (value : List ℕ → A) (number : IsNumber n Fits spell value) where
  pub number_takes : (bytes : List ℕ) (x : A × List ℕ) → IsBytes bytes → front_at n value bytes ≡ Some x → TakesNumber Fits spell bytes x.0 x.1
  number_takes bytes x h e =
      let g = guard_some (ltb (length bytes) n) (value (take n bytes), drop n bytes) x e in
      let enough : n ≤ length bytes = ltb-false _ _ g.0 in
      let front : IsBytes (take n bytes) = IsBytes-take n bytes h in
      let is : value (take n bytes) ≡ x.0 = ap (λ p. p.0) g.1 in
      let rest : drop n bytes ≡ x.1 = ap (λ p. p.1) g.1 in
      let shown : spell (value (take n bytes)) ≡ take n bytes = number.spelled (take n bytes) front (omega (arith, length-take n bytes)) in
      subst (λ (p : A × List ℕ). TakesNumber Fits spell bytes p.0 p.1) g.1 (record { parts = rw shown (sym (take-append-drop n bytes)); fits = number.fits (take n bytes) front; tail = IsBytes-drop n bytes h })

  pub number_again : (x : A) (rest : List ℕ) → Fits x → front_at n value (spell x ++ rest) ≡ Some (x, rest)
  number_again x rest fits =
      let long : ltb (length (spell x ++ rest)) n ≡ false = le-ltb _ _ (omega (arith, length-append (spell x) rest, number.len x)) in
      rw (long, take_at (spell x) rest n (number.len x), drop_at (spell x) rest n (number.len x), number.back x fits) refl

  pub number_short : (bytes : List ℕ) → front_at n value bytes ≡ None → length bytes < n
  number_short bytes e = ltb-true _ _ (guard_none (ltb (length bytes) n) (value (take n bytes), drop n bytes) e)

  pub short_number : (bytes : List ℕ) → length bytes < n → front_at n value bytes ≡ None
  short_number bytes lt = rw (lt-ltb _ _ lt) refl

below_4 : (bytes : List ℕ) → IsBytes bytes → from_be_bytes w32 bytes < 2 ^ 32
below_4 bytes h = omega (arith, h 0, h 1, h 2, h 3)

below_2 : (bytes : List ℕ) → IsBytes bytes → from_be_bytes w16 bytes < 2 ^ 16
below_2 bytes h = omega (arith, h 0, h 1)

pub oid_number : IsNumber 4 (λ n. n < 2 ^ 32) oid (λ l. from_be_bytes w32 l)
unfolding uint32
oid_number = record {
  len = λ n. refl;
  back = λ n fits. from_be_bytes-to_be_bytes_4 n fits;
  spelled = λ front h len. be_bytes_4 front _ len h refl;
  fits = λ front h. below_4 front h;
}

pub int32_number : IsNumber 4 (FitsSigned w32) int32 (λ l. cast_signed w32 (from_be_bytes w32 l))
unfolding int32
int32_number = record {
  len = λ n. refl;
  back = λ n fits. ap (cast_signed w32) (from_be_bytes-to_be_bytes_4 (cast_unsigned w32 n) (omega (arith, Fits-of_z fits))) ∙ to_z-of_z w32 n fits;
  spelled = λ front h len. ap (to_be_bytes w32) (of_z-to_z w32 (from_be_bytes w32 front) (below_4 front h)) ∙ be_bytes_4 front _ len h refl;
  fits = λ front h. read_sfits w32 (from_be_bytes w32 front);
}

pub int16_number : IsNumber 2 (FitsSigned w16) int16 (λ l. cast_signed w16 (from_be_bytes w16 l))
unfolding int16
int16_number = record {
  len = λ n. refl;
  back = λ n fits. ap (cast_signed w16) (from_be_bytes-to_be_bytes_2 (cast_unsigned w16 n) (omega (arith, Fits-of_z fits))) ∙ to_z-of_z w16 n fits;
  spelled = λ front h len. ap (to_be_bytes w16) (of_z-to_z w16 (from_be_bytes w16 front) (below_2 front h)) ∙ be_bytes_2 front _ len h refl;
  fits = λ front h. read_sfits w16 (from_be_bytes w16 front);
}

pub uint16_number : IsNumber 2 (λ n. n < 2 ^ 16) uint16 (λ l. from_be_bytes w16 l)
unfolding uint16
uint16_number = record {
  len = λ n. refl;
  back = λ n fits. from_be_bytes-to_be_bytes_2 n fits;
  spelled = λ front h len. be_bytes_2 front _ len h refl;
  fits = λ front h. below_2 front h;
}

below_8 : (bytes : List ℕ) → IsBytes bytes → from_be_bytes w64 bytes < 2 ^ 64
below_8 bytes h = omega (arith, h 0, h 1, h 2, h 3, h 4, h 5, h 6, h 7)

pub int64_number : IsNumber 8 (FitsSigned w64) int64 (λ l. cast_signed w64 (from_be_bytes w64 l))
unfolding int64
int64_number = record {
  len = λ n. refl;
  back = λ n fits. ap (cast_signed w64) (from_be_bytes-to_be_bytes_8 (cast_unsigned w64 n) (omega (arith, Fits-of_z fits))) ∙ to_z-of_z w64 n fits;
  spelled = λ front h len. ap (to_be_bytes w64) (of_z-to_z w64 (from_be_bytes w64 front) (below_8 front h)) ∙ be_bytes_8 front _ len h refl;
  fits = λ front h. read_sfits w64 (from_be_bytes w64 front);
}

pub uint64_number : IsNumber 8 (λ n. n < 2 ^ 64) uint64 (λ l. from_be_bytes w64 l)
unfolding uint64
uint64_number = record {
  len = λ n. refl;
  back = λ n fits. from_be_bytes-to_be_bytes_8 n fits;
  spelled = λ front h len. be_bytes_8 front _ len h refl;
  fits = λ front h. below_8 front h;
}

-- texts
pub text_read : (bytes string rest : List ℕ) → string_at bytes ≡ Some (string, rest) → IsUtf8 string → text_at bytes ≡ Ok (string, rest)
unfolding text_at
text_read bytes string rest is utf8 = rw (is, is_utf8-from_IsUtf8 string utf8) refl

not_utf8 : (string : List ℕ) → ¬ IsUtf8 string → is_utf8 string ≡ false
not_utf8 string bad =
    let by_test : (b : Bool) → is_utf8 string ≡ b → is_utf8 string ≡ false = λ b. elim b as (λ v. is_utf8 string ≡ v → is_utf8 string ≡ false) [
      | true ↦ λ e. absurd (bad (IsUtf8-from_is_utf8 string e))
      | false ↦ λ e. e
    ] in
    by_test (is_utf8 string) refl

pub text_refused : (bytes string rest : List ℕ) → string_at bytes ≡ Some (string, rest) → ¬ IsUtf8 string → text_at bytes ≡ Err NotUtf8
unfolding text_at
text_refused bytes string rest is bad = rw (is, not_utf8 string bad) refl

pub text_cut : (bytes : List ℕ) → string_at bytes ≡ None → text_at bytes ≡ Err UnexpectedEof
unfolding text_at
text_cut bytes is = rw is refl

-- a string that is not text
pub record IsNoText (bytes : List ℕ) : Type 0 where
  pub string : List ℕ
  pub rest : List ℕ
  pub parts : IsString bytes string rest
  pub bad : ¬ IsUtf8 string

-- what reading a text says of the bytes
abbrev pub TextFound : List ℕ → Result (List ℕ × List ℕ) Error → Type 0
TextFound bytes (Ok x) = IsString bytes x.0 x.1 × IsUtf8 x.0
TextFound bytes (Err UnexpectedEof) = HasNoZero bytes
TextFound bytes (Err NotUtf8) = IsNoText bytes
TextFound bytes (Err e) = ⊥

pub some_none : {A : Type 0} (x : A) → some x ≡ None → ⊥
some_none x e = absurd cc

first_none : (b : ℕ) (o : Option (List ℕ × List ℕ)) → with_first b o ≡ None → o ≡ None
first_none b None e = refl
first_none b (Some x) e = absurd cc

pub no_string : (bytes : List ℕ) → string_at bytes ≡ None → HasNoZero bytes
unfolding string_at
no_string [] e = tt
no_string (zero ∷ bytes) e = absurd cc
no_string (suc b ∷ bytes) e = ((λ z. omega (arith, z)), no_string bytes (first_none (suc b) (string_at bytes) e))

pub string_none : (bytes : List ℕ) → HasNoZero bytes → string_at bytes ≡ None
unfolding string_at
string_none [] none = refl
string_none (zero ∷ bytes) none = absurd (none.0 refl)
string_none (suc b ∷ bytes) none = rw (string_none bytes none.1) refl

pub text_found : (bytes : List ℕ) → TextFound bytes (text_at bytes)
text_found bytes =
    let by_string : (o : Option (List ℕ × List ℕ)) → string_at bytes ≡ o → TextFound bytes (text_at bytes) = λ o. elim o as (λ v. string_at bytes ≡ v → TextFound bytes (text_at bytes)) [
      | None ↦ λ e. rw (text_cut bytes e) (no_string bytes e)
      | Some x ↦ λ e.
          let parts = string_takes bytes x e in
          let by_test : (b : Bool) → is_utf8 x.0 ≡ b → TextFound bytes (text_at bytes) = λ b. elim b as (λ v. is_utf8 x.0 ≡ v → TextFound bytes (text_at bytes)) [
            | true ↦ λ t. let utf8 = IsUtf8-from_is_utf8 x.0 t in rw (text_read bytes x.0 x.1 e utf8) (parts, utf8)
            | false ↦ λ t.
                let bad : ¬ IsUtf8 x.0 = λ utf8. true≢false (sym (is_utf8-from_IsUtf8 x.0 utf8) ∙ t) in
                rw (text_refused bytes x.0 x.1 e bad) (record { string = x.0; rest = x.1; parts = parts; bad = bad })
          ] in
          by_test (is_utf8 x.0) refl
    ] in
    by_string (string_at bytes) refl

-- a part that is read takes bytes
pub front_falls : {A : Type 0} (n : ℕ) (value : List ℕ → A) (bytes : List ℕ) (x : A × List ℕ) → front_at n value bytes ≡ Some x → length x.1 + n ≡ length bytes
front_falls n value bytes x e =
    let g = guard_some (ltb (length bytes) n) (value (take n bytes), drop n bytes) x e in
    let enough : n ≤ length bytes = ltb-false _ _ g.0 in
    omega (arith, enough, length-drop n bytes, ap (λ p. length p.1) g.1)

pub string_falls : (bytes : List ℕ) (x : List ℕ × List ℕ) → string_at bytes ≡ Some x → length x.1 < length bytes
string_falls bytes x e = omega (arith, ap length (string_takes bytes x e).parts, length-append x.0 (0 ∷ x.1))

pub text_falls : (bytes : List ℕ) (x : List ℕ × List ℕ) → text_at bytes ≡ Ok x → length x.1 < length bytes
text_falls bytes x e =
    let found : TextFound bytes (Ok x) = subst (TextFound bytes) e (text_found bytes) in
    omega (arith, ap length found.0.parts, length-append x.0 (0 ∷ x.1))
