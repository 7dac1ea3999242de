-- Values that all take the same number of bytes, with the function that reads them.
use Rattle.pgp_types.proofs.Common.{◌≡◌, ℕ, zero, suc, ◌+◌, ◌<◌, List, [], ◌∷◌, length, take, drop, Result, Ok, Err, refl, sym, ap, ◌∙◌, subst, arith, inl, inr, ◌⊎◌, cases_order, get_or-drop, Error, UnexpectedEof, NotDrained, IsBytes, fixed, FixedReads, FixedRefused, IsSound}

-- parts of bytes are bytes
pub bytes_drop : (n : ℕ) (bytes : List ℕ) → IsBytes bytes → IsBytes (drop n bytes)
bytes_drop n bytes small i = rw (get_or-drop n bytes i 0) (small (n + i))

pub bytes_take : (n : ℕ) (bytes : List ℕ) → IsBytes bytes → IsBytes (take n bytes)
bytes_take zero bytes small i = omega arith
bytes_take (suc n) [] small i = omega arith
bytes_take (suc n) (b ∷ rest) small zero = small 0
bytes_take (suc n) (b ∷ rest) small (suc i) = bytes_take n rest (λ j. small (suc j)) i

-- each value has a spelling of that size, and all bytes of that size spell the value that read gives
pub record IsSpelling {V : Type 0} (IsValue : V → Type 0) (written : V → List ℕ) (size : ℕ) (read : List ℕ → V) : Type 0 where
  pub sized : (v : V) → IsValue v → length (written v) ≡ size
  pub has : (bytes : List ℕ) → IsBytes bytes → length bytes ≡ size → IsValue (read bytes)
  pub spelled : (bytes : List ℕ) → IsBytes bytes → length bytes ≡ size → bytes ≡ written (read bytes)
  pub again : (v : V) → IsValue v → read (written v) ≡ v

-- what was read from all of the bytes
pub gives : {V : Type 0} {IsValue : V → Type 0} {written : V → List ℕ} {size : ℕ} {read : List ℕ → V}
    → IsSpelling IsValue written size read → (bytes xs : List ℕ) → (IsBytes xs × (length xs ≡ size)) × (bytes ≡ xs)
    → (v : V) → v ≡ read xs → IsValue v × (bytes ≡ written v)
gives {V} {IsValue} {written} {size} {read} s bytes xs all v is =
    (subst IsValue (sym is) (s.has xs all.0.0 all.0.1), all.1 ∙ s.spelled xs all.0.0 all.0.1 ∙ ap written (sym is))

-- Every list of bytes is as long as a value, or is rejected.
some_fixed : {V : Type 0} {IsValue : V → Type 0} {written : V → List ℕ} {size : ℕ} {read : List ℕ → V}
    → IsSpelling IsValue written size read → (bytes : List ℕ) → IsBytes bytes
    → (length bytes ≡ size) ⊎ ((length bytes < size) ⊎ (size < length bytes))
    → (r : Result V Error) × FixedReads IsValue written size bytes r
some_fixed {V} {IsValue} {written} {size} {read} s bytes small (inl fits) =
    (Ok (read bytes), (s.has bytes small fits, s.spelled bytes small fits))
some_fixed s bytes small (inr (inl short)) = (Err UnexpectedEof, short)
some_fixed s bytes small (inr (inr long)) = (Err NotDrained, long)

pub one_refusal : (size : ℕ) (bytes : List ℕ) (d e : Error) → FixedRefused size bytes d → FixedRefused size bytes e → d ≡ e
one_refusal size bytes UnexpectedEof UnexpectedEof p q = refl
one_refusal size bytes UnexpectedEof NotDrained p q = absurd (omega arith)
one_refusal size bytes UnexpectedEof e p q = absurd q
one_refusal size bytes NotDrained UnexpectedEof p q = absurd (omega arith)
one_refusal size bytes NotDrained NotDrained p q = refl
one_refusal size bytes NotDrained e p q = absurd q
one_refusal size bytes d e p q = absurd p

-- the bytes of a value are not rejected
pub not_refused : (size : ℕ) (bytes : List ℕ) (e : Error) → length bytes ≡ size → FixedRefused size bytes e → ⊥
not_refused size bytes UnexpectedEof fits short = omega arith
not_refused size bytes NotDrained fits long = omega arith
not_refused size bytes e fits refused = refused

one_fixed : {V : Type 0} {IsValue : V → Type 0} {written : V → List ℕ} {size : ℕ} {read : List ℕ → V}
    → IsSpelling IsValue written size read → (bytes : List ℕ) (r s : Result V Error)
    → FixedReads IsValue written size bytes r → FixedReads IsValue written size bytes s → r ≡ s
one_fixed {V} {IsValue} {written} {size} {read} x bytes (Ok v) (Ok w) p q =
    ap Ok (sym (x.again v p.0) ∙ ap read (sym p.1 ∙ q.1) ∙ x.again w q.0)
one_fixed {V} {IsValue} {written} {size} {read} x bytes (Ok v) (Err e) p q =
    absurd (not_refused size bytes e (ap length p.1 ∙ x.sized v p.0) q)
one_fixed {V} {IsValue} {written} {size} {read} x bytes (Err e) (Ok w) p q =
    absurd (not_refused size bytes e (ap length q.1 ∙ x.sized w q.0) p)
one_fixed {V} {IsValue} {written} {size} {read} x bytes (Err d) (Err e) p q = ap Err (one_refusal size bytes d e p q)

pub fixed_sound : {V : Type 0} {IsValue : V → Type 0} {written : V → List ℕ} {size : ℕ} {read : List ℕ → V}
    → IsSpelling IsValue written size read → IsSound (fixed IsValue written size)
fixed_sound {V} {IsValue} {written} {size} {read} s = record {
  some = λ bytes small. some_fixed s bytes small (cases_order (length bytes) size);
  one = one_fixed s;
  back = λ v has spelled. (has, refl);
}
