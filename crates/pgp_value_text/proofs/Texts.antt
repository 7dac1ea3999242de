-- What is read is shown as its value, and what isn't read isn't shown.
use Rattle.pgp_value_text.proofs.Common.{◌≡◌, ℕ, List, Bool, true, false, Result, Ok, Err, refl, sym, ◌∙◌, subst, IsErr, IfOk, false≢true, Shows, As, Tells, Pushes}
use Rattle.pgp_base.specs.declared.error.Error.{Error}
use Rattle.pgp_types.specs.Format.{Format, IsSound}

module _ {W V : Type 0} (f : Format W V) (sound : IsSound f) (shown : V → List ℕ → Type 0) where
  same_value : (bytes : List ℕ) (v w : V) → f.Reads bytes (Ok v) → f.Reads bytes (Ok w) → v ≡ w
  same_value bytes v w r s = subst (λ r. IfOk r (λ x. v ≡ x)) (sound.one bytes (Ok v) (Ok w) r s) refl

  -- bytes that are refused are shown by no text
  pub refused : (bytes : List ℕ) (e : Error) → f.Reads bytes (Err e) → (t : List ℕ) → Shows f shown bytes t → ⊥
  refused bytes e r t s = false≢true (subst IsErr (sound.one bytes (Err e) (Ok s.0) r s.1) refl)

  -- by one text, if each value is
  pub one_shown : ((v : V) (a b : List ℕ) → shown v a → shown v b → a ≡ b) → (bytes a b : List ℕ) → Shows f shown bytes a → Shows f shown bytes b → a ≡ b
  one_shown one bytes a b s t = one t.0 a b (subst (λ v. shown v a) (same_value bytes s.0 t.0 s.1 t.1) s.2) t.2

  -- what is said of the value's text is said of the bytes'
  pub tells_read : {E : Type 0} (lacks : Type 0) (bytes : List ℕ) (v : V) (old new : List ℕ) (r : Result Bool E) → f.Reads bytes (Ok v) → Tells (shown v) lacks old new r → Tells (Shows f shown bytes) lacks old new r
  tells_read lacks bytes v old new (Ok true) reads w = (w.0, (v, reads, w.1), w.2)
  tells_read lacks bytes v old new (Ok false) reads w = (λ t s. w.0 t (subst (λ v. shown v t) (same_value bytes s.0 v s.1 reads) s.2), w.1)
  tells_read lacks bytes v old new (Err e) reads w = w

  pub pushes_read : {E : Type 0} (placed : List ℕ → List ℕ) (lacks : Type 0) (bytes : List ℕ) (v : V) (old new : List ℕ) (r : Result Bool E) → f.Reads bytes (Ok v) → Pushes (shown v) placed lacks old new r → Pushes (Shows f shown bytes) placed lacks old new r
  pushes_read placed lacks bytes v old new (Ok true) reads w = (w.0, (v, reads, w.1), w.2)
  pushes_read placed lacks bytes v old new (Ok false) reads w = λ t s. w t (subst (λ v. shown v t) (same_value bytes s.0 v s.1 reads) s.2)
  pushes_read placed lacks bytes v old new (Err e) reads w = w

-- a text that is given is one
pub one_as : {V : Type 0} (text_of : V → List ℕ) (v : V) (a b : List ℕ) → As text_of v a → As text_of v b → a ≡ b
one_as text_of v a b s t = s ∙ sym t

module _ {E : Type 0} (lacks : Type 0) (old new : List ℕ) where
  -- what is said where a condition holds
  pub tells_if : (Holds : Type 0) (IsText : List ℕ → Type 0) (r : Result Bool E) → Holds → Tells IsText lacks old new r → Tells (λ t. Holds × IsText t) lacks old new r
  tells_if Holds IsText (Ok true) h w = (w.0, (h, w.1), w.2)
  tells_if Holds IsText (Ok false) h w = (λ t s. w.0 t s.1, w.1)
  tells_if Holds IsText (Err e) h w = w

  -- what is said of a text is said of all that it shows
  pub tells_one : (s : List ℕ) (IsText : List ℕ → Type 0) (r : Result Bool E) → IsText s → Tells (λ x. x ≡ s) lacks old new r → Tells IsText lacks old new r
  tells_one s IsText (Ok true) h w = (w.0, subst IsText (sym w.1) h, w.2)
  tells_one s IsText (Ok false) h w = absurd (w.0 s refl)
  tells_one s IsText (Err e) h w = w

  -- the same text by another name
  pub tells_same : (s t : List ℕ) (r : Result Bool E) → s ≡ t → Tells (λ x. x ≡ s) lacks old new r → Tells (λ x. x ≡ t) lacks old new r
  tells_same s t r e = subst (λ t. Tells (λ x. x ≡ t) lacks old new r) e
