-- A line that is no object, with its mark.
use Rattle.pgtrace_session.proofs.Common.{◌≡◌, ◌≢◌, ℕ, List, [], ◌∷◌, ◌++◌, Result, Ok, Err, refl, sym, ap, ◌∙◌, append_assoc, OnOk, ◌==◌, if◌then◌else◌, append-nil, eqb-true, Json, marked}
use Rattle.std.specs.Prelude.{Bool, true, false}

by_first : (b : Bool) (mark rest : List ℕ) (first : ℕ) → (first == 123) ≡ b → ((more : List ℕ) → first ∷ rest ≢ 123 ∷ more) → (if b then 123 ∷ mark ++ rest else mark ++ first ∷ rest) ≡ mark ++ first ∷ rest
by_first true mark rest first e none = absurd (none rest (ap (λ x. x ∷ rest) (eqb-true first 123 e)))
by_first false mark rest first e none = refl

no_object : (mark line : List ℕ) → ((more : List ℕ) → line ≢ 123 ∷ more) → marked Json mark line ≡ mark ++ line
no_object mark [] none = sym (append-nil mark)
no_object mark (first ∷ rest) none = by_first (first == 123) mark rest first refl none

pub put_before : {T E : Type 0} (r : Result T E) (mark line old new : List ℕ) → ((more : List ℕ) → line ≢ 123 ∷ more) → OnOk r (new ≡ old ++ mark ++ line) → OnOk r (new ≡ old ++ marked Json mark line)
put_before (Ok x) mark line old new none e = e ∙ append_assoc old mark line ∙ ap (λ l. old ++ l) (sym (no_object mark line none))
put_before (Err x) mark line old new none e = tt
