-- Records whose values a serializer made.
use Rattle.pgp_values.proofs.Common.{◌≡◌, ℕ, ◌≤◌, List, [], ◌∷◌, map, length, None, MutBor, Result, refl, subst, arith, first, length_cause, Held, ◌⊕◌, Runs, either_none, length_fits, Runs-length, Field, field, composite, MakesField, FieldRefused}
use Rattle.pgp_base.specs.declared.error.BindError.{BindError}
use Rattle.pgp_base.specs.declared.number.IsNull.{IsNull}

module _ {F T E B K : Type 0} (held : B → Held K) (step : F → T → MutBor B → Result IsNull E → MutBor B → F → Type 0) where
  fields_fit : (here : Held K) (f : F) (xs : List (ℕ × T)) (vs : List Field) (t : F) → Runs (MakesField held step) field.written here f xs vs t → first (map field.cause vs) ≡ None
  fields_fit here f [] [] t r = refl
  fields_fit here f [] (v ∷ vs) t r = absurd r
  fields_fit here f (x ∷ xs) [] t r = absurd r
  fields_fit here f (x ∷ xs) (v ∷ vs) t r = either_none (field.cause v) (first (map field.cause vs)) r.1.1.fits (fields_fit (here ⊕ field.written v) r.0 xs vs t r.2)

  -- fields of which there are as many as can be counted have no cause
  pub record_fits : (here : Held K) (f : F) (xs : List (ℕ × T)) (vs : List Field) (t : F) → Runs (MakesField held step) field.written here f xs vs t → length xs ≤ 2147483647 → composite.cause vs ≡ None
  record_fits here f xs vs t r h =
      let n = Runs-length (MakesField held step) field.written here f xs vs t r in
      either_none (length_cause (length vs)) (first (map field.cause vs)) (length_fits (length vs) (omega (arith, n))) (fields_fit here f xs vs t r)

  pub refused_here : (lacks : Held K → ℕ → Type 0) (a b : Held K) (f : F) (x : ℕ × T) (e : BindError E) (u : F) → a ≡ b → FieldRefused held step lacks a f x e u → FieldRefused held step lacks b f x e u
  refused_here lacks a b f x e u same r = subst (λ (h : Held K). FieldRefused held step lacks h f x e u) same r
