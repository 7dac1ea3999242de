-- What a writer comes to in a window, by the room that is left there.
use Rattle.pgp_frontend.proofs.Common.{◌≡◌, ◌⊎◌, ℕ, ◌+◌, ◌≤◌, length, Some, None, Result, refl, sym, ◌∙◌, arith, inl, inr, IfErr, wants_window, Held, ◌⊕◌, Error, OutOfMemory, ClientMessage, bytes_of, cause, WritesMessage}
use Rattle.std.proofs.Common.{Ok, Err}
use Rattle.std.specs.Result.{IsOk}
use Rattle.std.specs.Borrow.{GName}
use Rattle.pgp_base.specs.Window.{window_lacks}

module _ (m : ClientMessage) (old new : Held (GName × ℕ)) where
  pub too_long : (result : Result (Unit {0}) Error) → WritesMessage m window_lacks old new result → IfErr result (λ e. ((e ≡ OutOfMemory) × window_lacks old (length (bytes_of m))) ⊎ (cause m ≡ Some e))
  too_long (Ok done) w = tt
  too_long (Err e) w = elim w.1.0 [ inl memory ↦ inl (memory.0, wants_window old _ memory.1) | inr c ↦ inr c ]

  pub fits_written : (result : Result (Unit {0}) Error) → WritesMessage m window_lacks old new result → cause m ≡ None → length old.bytes + length (bytes_of m) ≤ old.kept.1 → IsOk result × (new ≡ old ⊕ bytes_of m)
  fits_written (Ok done) w none fits = (refl, w.1.1)
  fits_written (Err e) w none fits = elim w.1.0 [
    | inl memory ↦ let long = wants_window old _ memory.1 in absurd (omega (arith, long, fits))
    | inr c ↦ let k : Some e ≡ None = sym c ∙ none in cc
  ]
