-- The elements of an array, one after another, and its head.
use Rattle.for_c.proofs.Common.{◌≡◌, ℕ, ◌<◌, ◌≤◌, List, [], ◌∷◌, ◌++◌, length, map, ◌*◌, ◌^◌, pos, Some, inl, inr, sym, ap, ◌∙◌, refl, arith, length-append, cases_Bool, append-nil, length-map, All-from_recursion, nullable_cause, Held, ◌⊕◌, uint32, int32, Error, TooLarge, length_fits, length-uint32, more_twice, value_of, elements_cause, elements_of, flag_in, head_of, list_of, IsArray, IsDimension, array_bytes, flag_of, has_null, int32_pos, signed_fits, PgpValue}
use Rattle.std.proofs.lemmas.List.{append_assoc}
use Rattle.for_c.proofs.Putting.{either_large, value_large}

-- two parts, one after the other
pub then_more : {K : Type 0} (old h k : Held K) (p q : List ℕ) → h ≡ old ⊕ p → k ≡ h ⊕ q → k ≡ old ⊕ (p ++ q)
then_more old h k p q e f = f ∙ (ap (λ x. x ⊕ q) e ∙ more_twice old p q)

pub head_length : (t : ℕ) (vs : List PgpValue) → length (head_of t vs) ≡ 20
head_length t vs =
    let a = uint32 1 in
    let b = uint32 (flag_in vs) in
    let c = uint32 t in
    let d = uint32 (length vs) in
    omega (arith, length-append (a ++ b ++ c ++ d) a, length-append (a ++ b ++ c) d, length-append (a ++ b) c, length-append a b, length-uint32 1, length-uint32 (flag_in vs), length-uint32 t, length-uint32 (length vs))

pub elements_large : (vs : List PgpValue) (e : Error) → elements_cause vs ≡ Some e → e ≡ TooLarge
elements_large [] e is = absurd cc
elements_large (v ∷ vs) e is = either_large (nullable_cause (value_of v)) (elements_cause vs) (value_large (value_of v)) (elements_large vs) e is

-- the array of one dimension
pub flags : (vs : List PgpValue) → flag_of (has_null (map value_of vs)) ≡ flag_in vs
flags [] = refl
flags (v ∷ vs) = elim (cases_Bool v.is_null) [
  | inl null ↦ rw null refl
  | inr full ↦ rw full (flags vs)
]

apart : (a b c d e f : List ℕ) → a ++ b ++ c ++ d ++ e ++ f ≡ a ++ b ++ c ++ (d ++ e ++ []) ++ f
apart a b c d e f = simp (append_assoc, append-nil) refl

pub list_bytes : (t : ℕ) (vs : List PgpValue) → head_of t vs ++ elements_of vs ≡ array_bytes (list_of t vs)
list_bytes t vs =
    let one = uint32 1 in
    let count = uint32 (length vs) in
    apart one (uint32 (flag_in vs)) (uint32 t) count one (elements_of vs)
    ∙ (ap (λ n. one ++ uint32 n ++ uint32 t ++ (count ++ one ++ []) ++ elements_of vs) (sym (flags vs))
    ∙ (ap (λ l. one ++ uint32 (flag_of (has_null (map value_of vs))) ++ uint32 t ++ (l ++ one ++ []) ++ elements_of vs) (sym (int32_pos (length vs)))
    ∙ ap (λ l. one ++ uint32 (flag_of (has_null (map value_of vs))) ++ uint32 t ++ (int32 (pos (length vs)) ++ l ++ []) ++ elements_of vs) (sym (int32_pos 1))))

pub is_array : (t : ℕ) (vs : List PgpValue) → t < 2 ^ 32 → length vs ≤ 2147483647 → IsArray (list_of t vs)
is_array t vs type few =
    let n = length vs in
    let once : 1 * n ≡ n = omega arith in
    record {
      in_range = All-from_recursion IsDimension (list_of t vs).dimensions ((signed_fits n (length_fits n (omega (arith, few))), signed_fits 1 (length_fits 1 (omega arith))), tt);
      type = type;
      product = n;
      are = (n, refl, omega (arith, few), once);
      elements = length-map vs value_of;
    }
