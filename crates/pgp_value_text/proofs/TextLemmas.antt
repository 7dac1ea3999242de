-- What was written is a text that shows something.
use Rattle.pgp_value_text.proofs.Common.{◌≡◌, ℕ, ℤ, List, sym, subst, WritesText, ShowsMoment, HasText, Held, TextError, OutOfMemory, OutOfRange, Moment, Value}
use Rattle.std.specs.Prelude.{⊤, Result, Ok, Err}

module _ {K : Type 0} (lacks : Held K → ℕ → Type 0) (old new : Held K) where
  -- the text that was written shows it
  pub writes_shown : (shows : List ℕ → Type 0) (in_range : Type 0) (r : Result (Unit {0}) TextError) (t : List ℕ) → WritesText (λ s. s ≡ t) ⊤ lacks old new r → shows t → WritesText shows in_range lacks old new r
  writes_shown shows in_range (Ok x) t w s = (w.0, subst shows (sym w.1) s, w.2)
  writes_shown shows in_range (Err OutOfMemory) t w s = ((w.0.0, subst shows (sym w.0.1) s, w.0.2), w.1)
  writes_shown shows in_range (Err OutOfRange) t w s = absurd (w.0 tt)

  -- the number of a moment
  pub writes_moment : (shows : ℤ → List ℕ → Type 0) (in_range : ℤ → Type 0) (v : Moment ℤ) (z : ℤ) (r : Result (Unit {0}) TextError) → v ≡ Value z → WritesText (shows z) (in_range z) lacks old new r → WritesText (ShowsMoment shows v) (HasText in_range v) lacks old new r
  writes_moment shows in_range v z r is w = subst (λ (v : Moment ℤ). WritesText (ShowsMoment shows v) (HasText in_range v) lacks old new r) (sym is) w
