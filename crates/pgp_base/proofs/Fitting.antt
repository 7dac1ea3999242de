-- What a writer comes to in a window, by the room that is left there.
use Rattle.pgp_base.proofs.Common.{◌≡◌, ◌⊎◌, ℕ, ◌+◌, ◌≤◌, List, length, take, Some, None, Result, Ok, Err, refl, sym, ap, ◌∙◌, arith, inl, inr, length-append, IfErr, IsOk, GName, length-take, Cause, Writes, Held, ◌⊕◌, lengthened, window_held, window_lacks, Window, Error, OutOfMemory}
use Rattle.pgp_base.proofs.Needs.{wants_window}

-- what stands in a window after a writer is within the caller's memory
within : (old new : Window) (z : List ℕ) → window_held new ≡ window_held old ⊕ z → length (window_held old).bytes + length z ≤ (window_held old).kept.1
unfolding lengthened
within old new z e =
    let grown : length (take new.len new.room.now) ≡ length (take old.len old.room.now) + length z = ap (λ (h : Held (GName × ℕ)). length h.bytes) e ∙ length-append (take old.len old.room.now) z in
    let same : length new.room.now ≡ length old.room.now = ap (λ (h : Held (GName × ℕ)). h.kept.1) e in
    omega (arith, grown, same, length-take new.len new.room.now)

module _ (spelling : List ℕ) (cause : Cause) where
  pub fits_written : (old new : Window) (result : Result (Unit {0}) Error) → Writes spelling cause window_lacks (window_held old) (window_held new) result
      → cause ≡ None → length (window_held old).bytes + length spelling ≤ (window_held old).kept.1 → IsOk result × (window_held new ≡ window_held old ⊕ spelling)
  fits_written old new (Ok done) w none fits = (refl, w.1)
  fits_written old new (Err e) w none fits = elim w.0 [
    | inl memory ↦ let long = wants_window (window_held old) _ memory.1 in absurd (omega (arith, long, fits))
    | inr c ↦ let k : Some e ≡ None = sym c ∙ none in cc
  ]

  pub too_long : (old new : Window) (result : Result (Unit {0}) Error) → Writes spelling cause window_lacks (window_held old) (window_held new) result
      → cause ≡ None → window_lacks (window_held old) (length spelling) → result ≡ Err OutOfMemory
  too_long old new (Ok done) w none long = absurd (let fits = within old new spelling w.1 in omega (arith, fits, long))
  too_long old new (Err e) w none long = elim w.0 [
    | inl memory ↦ ap (λ (e : Error). Err e) memory.0
    | inr c ↦ let k : Some e ≡ None = sym c ∙ none in cc
  ]

  pub only_too_long : (old new : Window) (result : Result (Unit {0}) Error) → Writes spelling cause window_lacks (window_held old) (window_held new) result
      → IfErr result (λ e. ((e ≡ OutOfMemory) × window_lacks (window_held old) (length spelling)) ⊎ (cause ≡ Some e))
  only_too_long old new (Ok done) w = tt
  only_too_long old new (Err e) w = elim w.0 [ inl memory ↦ inl (memory.0, wants_window (window_held old) _ memory.1) | inr c ↦ inr c ]
