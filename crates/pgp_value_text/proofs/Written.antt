-- What writers of days and times wrote.
use Rattle.pgp_value_text.proofs.Common.{◌≡◌, ℕ, ℤ, ◌<◌, List, Bool, Result, Ok, Err, sym, ap, subst, arith, inl, inr, [], ◌++◌, codes, nat_eq, if◌then◌else◌, false≢true, IsEpochDay, IsCivilNanos, IsShownDay, IsShownInstant, Moment, PosInfinity, NegInfinity, Value, WritesText, ShowsDay, ShowsInstant, ShowsMoment, ShowsTime, IsShownTime, HasText, Tells, zone_of, signed_arith, epoch_day_range, civil_nanos_range, time_nanos_bound, items_held, ◌⊕◌, lengthened, TextError, OutOfMemory, OutOfRange}
use Rattle.pgp_value_text.specs.Told.{Told}

-- the bytes that a buffer holds after those that it held
pub lengthened_items : (old new t : List ℕ) → items_held new ≡ items_held old ⊕ t → new ≡ old ++ t
unfolding lengthened
lengthened_items old new t e = ap (λ h. h.bytes) e

-- the texts of what is in range
pub day_in_range : (days : ℤ) (t : List ℕ) → ShowsDay days t → IsShownDay days
day_in_range days t s = subst IsEpochDay s.1 (epoch_day_range s.0)

pub instant_in_range : (zone : List ℕ) (n : ℤ) (t : List ℕ) → ShowsInstant zone n t → IsShownInstant n
instant_in_range zone n t s = subst IsCivilNanos s.1 (civil_nanos_range s.0)

pub time_in_range : (n : ℤ) (t : List ℕ) → ShowsTime n t → IsShownTime n
time_in_range n t (inl s) = omega (arith, signed_arith, s.0)
time_in_range n t (inr s) = omega (arith, signed_arith, s.1, time_nanos_bound s.0)

pub moment_in_range : (shows : ℤ → List ℕ → Type 0) (in_range : ℤ → Type 0) → ((n : ℤ) (t : List ℕ) → shows n t → in_range n) → (v : Moment ℤ) (t : List ℕ) → ShowsMoment shows v t → HasText in_range v
moment_in_range shows in_range h PosInfinity t s = tt
moment_in_range shows in_range h NegInfinity t s = tt
moment_in_range shows in_range h (Value n) t s = h n t s

module _ {E : Type 0} (lacks : Type 0) (old new : List ℕ) (shows : List ℕ → Type 0) (in_range : Type 0) (h : (t : List ℕ) → shows t → in_range) where
  -- what the writer's answer says of whether a text was added is so
  pub tells_told : (w : Result (Unit {0}) TextError) (r : Result Bool E) → WritesText shows in_range (λ _ n. lacks × (0 < n)) (items_held old) (items_held new) w → Told w r → Tells shows lacks old new r
  tells_told (Ok done) r w e = subst (λ r. Tells shows lacks old new r) (sym e) (w.0, w.1, lengthened_items old new w.0 w.2)
  tells_told (Err OutOfRange) r w e = subst (λ r. Tells shows lacks old new r) (sym e) (λ t s. w.0 (h t s), w.1.bytes)
  tells_told (Err OutOfMemory) (Ok b) w e = absurd (false≢true e)
  tells_told (Err OutOfMemory) (Err e) w _ = (w.0.2.refused.0, w.1.bytes)

-- an instant with its zone, if the type has it
pub zone_if : (n : ℕ) (b : Bool) → nat_eq n 1184 ≡ b → zone_of n ≡ (if b then codes "+00" else [])
zone_if n b e = ap (λ b. if b then codes "+00" else []) e

pub tells_instant : {E : Type 0} (lacks : Type 0) (old new : List ℕ) (z zone : List ℕ) (v : Moment ℤ) (w : Result (Unit {0}) TextError) (r : Result Bool E) → z ≡ zone → WritesText (ShowsMoment (ShowsInstant zone) v) (HasText IsShownInstant v) (λ _ n. lacks × (0 < n)) (items_held old) (items_held new) w → Told w r → Tells (ShowsMoment (ShowsInstant z) v) lacks old new r
tells_instant lacks old new z zone v w r e wrote said =
    subst (λ z. Tells (ShowsMoment (ShowsInstant z) v) lacks old new r) (sym e)
    (tells_told lacks old new (ShowsMoment (ShowsInstant zone) v) (HasText IsShownInstant v) (moment_in_range (ShowsInstant zone) IsShownInstant (instant_in_range zone) v) w r wrote said)
