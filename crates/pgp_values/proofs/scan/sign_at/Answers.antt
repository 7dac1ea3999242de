use Rattle.pgp_values.proofs.Common.{◌≡◌, ◌∷◌, [], inr, refl}
use Rattle.pgp_values.proofs.scan.sign_at.Goals as goal

pub returns-in-Some : goal.returns-in-Some
returns-in-Some c = record { sign = 43 ∷ []; signed = inr refl; stops = λ e. (let f : 43 ∷ [] ≡ [] = e in absurd cc); all = c.in-Some.ensures }
