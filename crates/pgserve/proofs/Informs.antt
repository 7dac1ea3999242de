-- What informs a client, from one call to the next.
use Rattle.std.proofs.Common.{◌≡◌, ℕ, ℤ, List, Option, subst, sym, inl, inr}
use Rattle.pgserve.specs.Sent.{Informs, Nothing, Notifies, Reports, Puts, notification, setting}

pub notified : {F : Type 0} {old new : List ℕ} (process : ℤ) (channel text : List ℕ) (fault : Option F) → Puts (notification process channel text) old new fault → Informs old new
notified process channel text fault (inl p) = subst (Informs _) (sym p) (Notifies process channel text Nothing)
notified process channel text fault (inr p) = subst (Informs _) (sym p.0) Nothing

pub reported : {F : Type 0} {old new : List ℕ} (name value : List ℕ) (fault : Option F) → Puts (setting name value) old new fault → Informs old new
reported name value fault (inl p) = subst (Informs _) (sym p) (Reports name value Nothing)
reported name value fault (inr p) = subst (Informs _) (sym p.0) Nothing

pub same : {old new : List ℕ} → new ≡ old → Informs old new
same p = subst (Informs _) (sym p) Nothing

pub behind_same : {old mid new : List ℕ} → mid ≡ old → Informs mid new → Informs old new
behind_same {new = new} p i = subst (λ z. Informs z new) p i

also : {old mid new : List ℕ} → Informs old mid → Informs mid new → Informs old new
also i Nothing = i
also i (Notifies process channel text more) = Notifies process channel text (also i more)
also i (Reports name value more) = Reports name value (also i more)

pub informed : {old mid from to new : List ℕ} → Informs old mid → Informs from to → from ≡ mid → new ≡ to → Informs old new
informed {old} {to = to} i more p q = subst (Informs old) (sym q) (also i (subst (λ z. Informs z to) p more))
