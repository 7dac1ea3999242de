-- An array has one text.
use Rattle.std.proofs.Common.{◌≡◌, ◌≢◌, ℕ, zero, suc, false, List, length, Option, Some, None, sym, ap, ◌∙◌, subst}
use Rattle.pgp_value_text.proofs.Common.{ShowsArray, ShowsElement, ShowsSome, all_bounds, placed, ShowsEach, hint_of, ArrayRead, within}
use Rattle.pgp_value_text.proofs.Parts.{one_each}
use Rattle.pgp_value_text.proofs.Ranges.{one_element_text}

pub one_element : (type_oid : ℕ) (v : Option (List ℕ)) (a b : List ℕ) → ShowsElement type_oid v a → ShowsElement type_oid v b → a ≡ b
one_element type_oid None a b s t = s ∙ sym t
one_element type_oid (Some bytes) a b s t = s.2 ∙ (ap (within type_oid) (one_element_text type_oid bytes s.0 t.0 s.1 t.1) ∙ sym t.2)

one_some : (n : ℕ) (a : ArrayRead) (s t : List ℕ) → ShowsSome n a s → ShowsSome n a t → s ≡ t
one_some zero a s t h k = h ∙ sym k
one_some (suc n) a s t h k = one_each (ShowsElement a.element_type) (placed a.element_type (suc n) a.dimensions.items) (one_element a.element_type) 0 a.values.items (all_bounds a.dimensions.items) s t h k

pub one_array : (a : ArrayRead) (s t : List ℕ) → ShowsArray a s → ShowsArray a t → s ≡ t
one_array a s t h k = one_some (length a.values.items) a s t h.2 k.2

-- what was added of so many elements, after the bounds
module _ (a : ArrayRead) (size : ℕ) (bounds : List ℕ) (some : size ≢ 0) (same : size ≡ (hint_of a.values.announced).0) (is : bounds ≡ all_bounds a.dimensions.items) where
  abbrev pub ShowsSize : List ℕ → Type 0
  ShowsSize t = ShowsEach (ShowsElement a.element_type) (placed a.element_type size a.dimensions.items) 0 a.values.items bounds t

  some_shown : (n : ℕ) (t : List ℕ) → n ≡ size → ShowsSize t → ShowsSome n a t
  some_shown zero t e s = absurd (some (sym e))
  some_shown (suc n) t e s = subst (λ b. ShowsEach (ShowsElement a.element_type) (placed a.element_type (suc n) a.dimensions.items) 0 a.values.items b t) is
      (subst (λ k. ShowsEach (ShowsElement a.element_type) (placed a.element_type k a.dimensions.items) 0 a.values.items bounds t) (sym e) s)

  shown_some : (n : ℕ) (t : List ℕ) → n ≡ size → ShowsSome n a t → ShowsSize t
  shown_some zero t e s = absurd (some (sym e))
  shown_some (suc n) t e s = subst (λ k. ShowsEach (ShowsElement a.element_type) (placed a.element_type k a.dimensions.items) 0 a.values.items bounds t) e
      (subst (λ b. ShowsEach (ShowsElement a.element_type) (placed a.element_type (suc n) a.dimensions.items) 0 a.values.items b t) (sym is) s)

  pub array_shown : (t : List ℕ) → (a.values.end ≡ None) × (length a.values.items ≡ size) × ShowsSize t → ShowsArray a t
  array_shown t s = (s.0, s.1 ∙ same, some_shown (length a.values.items) t s.1 s.2)

  pub array_none : (a.values.end ≡ None → length a.values.items ≡ size → (t : List ℕ) → ShowsSize t → ⊥) → (t : List ℕ) → ShowsArray a t → ⊥
  array_none none t s = let e = s.1 ∙ sym same in none s.0 e t (shown_some (length a.values.items) t e s.2)
