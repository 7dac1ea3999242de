-- A time with its zone.
use Rattle.pgp_value_text.proofs.Common.{◌≡◌, ℕ, ◌<◌, List, Bool, true, false, Result, Ok, Err, refl, sym, ap, ◌∙◌, subst, ◌++◌, IfOk, IsErr, unsigned_abs, false≢true, ShowsTime, Tells, zone_text, ShowsTimeTz, append_assoc}
use Rattle.pgp_value_text.proofs.Uniqueness.{one_time}
use Rattle.pgp_values.specs.declared.time.TimeTz.{TimeTz}

module _ {E : Type 0} (lacks : Type 0) (old mid : List ℕ) (v : TimeTz) where
  -- a time that isn't shown isn't shown with a zone
  pub not_zoned : (r : Result Bool E) (shown : Bool) → r ≡ Ok shown → shown ≡ false → Tells (ShowsTime v.microseconds) lacks old mid r → ((t : List ℕ) → ShowsTimeTz v t → ⊥) × (mid ≡ old)
  not_zoned (Ok true) shown is e w = absurd (false≢true (sym (subst (λ r. IfOk r (λ b. true ≡ b)) is refl ∙ e)))
  not_zoned (Ok false) shown is e w = (λ t s. w.0 s.1.0 s.1.1, w.1)
  not_zoned (Err x) shown is e w = absurd (false≢true (subst IsErr is refl))

  -- a zone after the time
  pub zoned : (r : Result Bool E) (shown : Bool) (new : List ℕ) → r ≡ Ok shown → shown ≡ true → unsigned_abs v.zone < 57_600 → Tells (ShowsTime v.microseconds) lacks old mid r → new ≡ mid ++ zone_text v.zone → (x : List ℕ) × ShowsTimeTz v x × (new ≡ old ++ x)
  zoned (Ok true) shown new is e small w n =
      (w.0 ++ zone_text v.zone, (small, (w.0, w.1, refl)), n ∙ (ap (λ m. m ++ zone_text v.zone) w.2 ∙ append_assoc old w.0 (zone_text v.zone)))
  zoned (Ok false) shown new is e small w n = absurd (false≢true (subst (λ r. IfOk r (λ b. false ≡ b)) is refl ∙ e))
  zoned (Err x) shown new is e small w n = absurd (false≢true (subst IsErr is refl))

pub one_zoned : (v : TimeTz) (a b : List ℕ) → ShowsTimeTz v a → ShowsTimeTz v b → a ≡ b
one_zoned v a b s t = s.1.2 ∙ (ap (λ clock. clock ++ zone_text v.zone) (one_time v.microseconds s.1.0 t.1.0 s.1.1 t.1.1) ∙ sym t.1.2)
