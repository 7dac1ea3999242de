-- A value as it stands: a length, and so many bytes, or the mark of a null.
use Rattle.pgp_frontend_read.proofs.Common.{◌≡◌, ℕ, ◌<◌, ◌≤◌, ◌^◌, Bool, true, false, List, ◌++◌, length, take, drop, Option, Some, None, Result, Ok, Err, refl, sym, ap, subst, ◌∙◌, append_assoc, arith, length-take, inl, inr, ◌==◌, ◌⊎◌, nat_lt, if◌then◌else◌, take-append-drop, take_at, drop_at, ne_eqb, eqb-true, ltb-false, le-ltb, IsBytes, oid, uint32, nullable, nullable_cause, length_cause, ◌>>=◌, oid_at, Error, length_fits, fits_of, null_spelled, oid_number, number_takes, number_again, w32, from_be_bytes, value_at, value_after, ok_is}
use Rattle.std.proofs.lemmas.List.{length-append}
use Rattle.pgp_frontend_read.proofs.Items.{IsItem}

-- what was read from an option
pub bound : {A B : Type 0} (o : Option A) (f : A → Result B Error) (y : B) → (o >>= f) ≡ Ok y → (x : A) × (o ≡ Some x) × (f x ≡ Ok y)
bound None f y e = absurd cc
bound (Some x) f y e = (x, refl, e)

-- a test that didn't reject
pub passed : {A : Type 0} (b : Bool) (e : Error) (r : Result A Error) (y : A) → (if b then Err e else r) ≡ Ok y → (b ≡ false) × (r ≡ Ok y)
passed true e r y h = absurd cc
passed false e r y h = (refl, h)

pub chosen : {A : Type 0} (b : Bool) (x y z : A) → (if b then x else y) ≡ z → ((b ≡ true) × (x ≡ z)) ⊎ ((b ≡ false) × (y ≡ z))
chosen true x y z e = inl (refl, e)
chosen false x y z e = inr (refl, e)

abbrev pub HasLength : Option (List ℕ) → Type 0
HasLength v = nullable_cause v ≡ None

abbrev some_value : ℕ → List ℕ → Option (List ℕ) × List ℕ
some_value n bytes = (Some (take n bytes), drop n bytes)

abbrev no_value : List ℕ → Option (List ℕ) × List ℕ
no_value bytes = (None, bytes)

after_found : (n : ℕ) (bytes : List ℕ) (x : Option (List ℕ) × List ℕ) → value_after n bytes ≡ Ok x → HasLength x.0 × (oid n ++ bytes ≡ nullable x.0 ++ x.1)
after_found n bytes x e =
    elim (chosen (n == 4294967295) _ _ _ e) [
      | inl null ↦
          let is : n ≡ 4294967295 = eqb-true n 4294967295 null.0 in
          subst (λ (p : Option (List ℕ) × List ℕ). HasLength p.0 × (oid n ++ bytes ≡ nullable p.0 ++ p.1)) (ok_is (no_value bytes) x null.1) (refl, ap (λ m. oid m ++ bytes) is ∙ ap (λ l. l ++ bytes) null_spelled)
      | inr more ↦
          let a = passed (nat_lt 2147483647 n) _ _ x more.1 in
          let b = passed (nat_lt (length bytes) n) _ _ x a.1 in
          let small : n ≤ 2147483647 = ltb-false 2147483647 n a.0 in
          let enough : n ≤ length bytes = ltb-false (length bytes) n b.0 in
          let len : length (take n bytes) ≡ n = omega (arith, length-take n bytes) in
          let fits : length_cause (length (take n bytes)) ≡ None = length_fits (length (take n bytes)) (omega (arith, len, small)) in
          let whole : oid n ++ bytes ≡ (uint32 (length (take n bytes)) ++ take n bytes) ++ drop n bytes =
          ap (λ l. oid n ++ l) (sym (take-append-drop n bytes)) ∙ sym (append_assoc (oid n) (take n bytes) (drop n bytes)) ∙ ap (λ m. (uint32 m ++ take n bytes) ++ drop n bytes) (sym len) in
          subst (λ (p : Option (List ℕ) × List ℕ). HasLength p.0 × (oid n ++ bytes ≡ nullable p.0 ++ p.1)) (ok_is (some_value n bytes) x b.1) (fits, whole)
    ]

value_found : (bytes : List ℕ) (v : Option (List ℕ)) (rest : List ℕ) → IsBytes bytes → value_at bytes ≡ Ok (v, rest) → HasLength v × (bytes ≡ nullable v ++ rest)
unfolding value_at
value_found bytes v rest h e =
    let r = bound (oid_at bytes) (λ len. value_after len.0 len.1) (v, rest) e in
    let t = number_takes 4 (λ n. n < 2 ^ 32) oid (λ l. from_be_bytes w32 l) oid_number bytes r.0 h r.1 in
    let a = after_found r.0.0 r.0.1 (v, rest) r.2 in
    (a.0, t.parts ∙ a.1)

value_again : (v : Option (List ℕ)) (rest : List ℕ) → HasLength v → value_at (nullable v ++ rest) ≡ Ok (v, rest)
unfolding value_at
value_again None rest h =
    let head : nullable None ++ rest ≡ oid 4294967295 ++ rest = ap (λ l. l ++ rest) (sym null_spelled) in
    let n : oid_at (oid 4294967295 ++ rest) ≡ Some (4294967295, rest) = number_again 4 (λ n. n < 2 ^ 32) oid (λ l. from_be_bytes w32 l) oid_number 4294967295 rest (omega arith) in
    ap (λ l. oid_at l >>= λ len. value_after len.0 len.1) head ∙ ap (λ o. o >>= λ len. value_after len.0 len.1) n
value_again (Some z) rest h =
    let small : length z < 2 ^ 31 = fits_of (length z) h in
    let head : nullable (Some z) ++ rest ≡ oid (length z) ++ (z ++ rest) = append_assoc (oid (length z)) z rest in
    let n : oid_at (oid (length z) ++ (z ++ rest)) ≡ Some (length z, z ++ rest) = number_again 4 (λ n. n < 2 ^ 32) oid (λ l. from_be_bytes w32 l) oid_number (length z) (z ++ rest) (omega (arith, small)) in
    let a : (length z == 4294967295) ≡ false = ne_eqb (length z) 4294967295 (λ e. omega (arith, e, small)) in
    let b : nat_lt 2147483647 (length z) ≡ false = le-ltb 2147483647 (length z) (omega (arith, small)) in
    let c : nat_lt (length (z ++ rest)) (length z) ≡ false = le-ltb (length (z ++ rest)) (length z) (omega (arith, length-append z rest)) in
    let read : value_after (length z) (z ++ rest) ≡ Ok (Some z, rest) = rw (a, b, c, take_at z rest (length z) refl, drop_at z rest (length z) refl) refl in
    ap (λ l. oid_at l >>= λ len. value_after len.0 len.1) head ∙ ap (λ o. o >>= λ len. value_after len.0 len.1) n ∙ read

pub value_item : IsItem HasLength nullable value_at
value_item = record { found = value_found; again = value_again }
