-- A day, an instant and a time have one text.
use Rattle.pgp_value_text.proofs.Common.{◌≡◌, ℕ, ℤ, pos, ◌*ℤ◌, List, refl, sym, ap, ◌∙◌, arith, inl, inr, era, year_after, day_text, clock_text, later, days_cycle, microseconds_cycle, ShowsDay, ShowsInstant, ShowsTime, ◌+ℤ◌, signed_arith, epoch_day_injective, time_nanos_injective, civil_nanos_injective, time_nanos_bound}
use Rattle.jiff_core.specs.declared.civil.date.Date.{Date}
use Rattle.jiff_core.specs.declared.civil.time.Time.{Time}
use Rattle.jiff_core.specs.Date.{epoch_day}
use Rattle.jiff_core.specs.Time.{time_nanos}

same_day : (years : ℕ) (a b : Date) → epoch_day a ≡ epoch_day b → day_text (year_after years a) a ≡ day_text (year_after years b) b
same_day years a b e = let h = epoch_day_injective a b e in rw (h.0, h.1, h.2) refl

same_era : (years : ℕ) (a b : Date) → epoch_day a ≡ epoch_day b → era (year_after years a) ≡ era (year_after years b)
same_era years a b e = ap (λ y. era (y +ℤ pos years)) (epoch_day_injective a b e).0

same_clock : (a b : Time) → time_nanos a ≡ time_nanos b → clock_text a ≡ clock_text b
same_clock a b e = let h = time_nanos_injective a b e in rw (h.0, h.1, h.2, h.3) refl

pub one_date : (days : ℤ) (a b : List ℕ) → ShowsDay days a → ShowsDay days b → a ≡ b
one_date days a b s t =
    let same = s.1 ∙ sym t.1 in
    let years = later days_cycle days in
    rw (s.2, t.2, same_day years s.0 t.0 same, same_era years s.0 t.0 same) refl

pub one_instant : (zone : List ℕ) (n : ℤ) (a b : List ℕ) → ShowsInstant zone n a → ShowsInstant zone n b → a ≡ b
one_instant zone n a b s t =
    let h = civil_nanos_injective s.0 t.0 (s.1 ∙ sym t.1) in
    let years = later microseconds_cycle n in
    rw (s.2, t.2, same_day years s.0.date t.0.date h.0, same_era years s.0.date t.0.date h.0, same_clock s.0.time t.0.time h.1) refl

no_end : (n : ℤ) (t : Time) → n ≡ pos 86_400_000_000 → pos (time_nanos t) ≡ n *ℤ pos 1_000 → ⊥
no_end n t e f = omega (arith, signed_arith, e, f, time_nanos_bound t)

pub one_time : (n : ℤ) (a b : List ℕ) → ShowsTime n a → ShowsTime n b → a ≡ b
one_time n a b (inl s) (inl t) = s.1 ∙ sym t.1
one_time n a b (inl s) (inr t) = absurd (no_end n t.0 s.0 t.1)
one_time n a b (inr s) (inl t) = absurd (no_end n s.0 t.0 s.1)
one_time n a b (inr s) (inr t) =
    let same : time_nanos s.0 ≡ time_nanos t.0 = omega (arith, signed_arith, s.1, t.1) in
    s.2 ∙ (same_clock s.0 t.0 same ∙ sym t.2)
