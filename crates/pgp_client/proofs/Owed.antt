-- What a server may send where nothing was asked.
use Rattle.pgp_client.proofs.PoolCommon.{Turn, Talk, FollowsTo, start, ◌≡◌, ◌⊎◌, ◌∙◌, ℕ, List, [], ◌∷◌, ◌++◌, true, ap, inl, inr, refl, AmongTurns, NoTurnLeft, OneAnswer, OneElse, BelongInTurns, is_idle, Hears, reported_in, Event, Aside, Ended, Kind}
use Rattle.pgp_client.specs.Flow as flow
use Rattle.pgp_client.specs.Flow.{Ready, Serves}
use Rattle.pgp_client.proofs.Homes.{stands_behind}

abbrev IsNobodys : Event → Type 0
IsNobodys e = (e ≡ Aside) ⊎ (e ≡ Ended)

ends : {later : ℕ → ℕ} {k : Kind} {e : Event} → Serves later Ready [] (k ∷ []) (e ∷ []) → e ≡ Ended
ends flow.Closed = refl

one_owed : {later : ℕ → ℕ} {ks : List Kind} {es rest : List Event} (k : Kind) (told : Event) → AmongTurns later ks es (Hears k told ∷ []) rest → Serves later Ready [] ks es
    → (event : Event) × (rest ≡ event ∷ []) × IsNobodys event
one_owed k told (OneElse j d s NoTurnLeft) w = (Aside, refl, inl refl)
one_owed k told (OneAnswer j e d tie NoTurnLeft) w = (e, refl, inr (ends w))

pub none_owed : (turns : List Turn) (now : Talk) (k : Kind) (told : Event) (truth : List Event) → FollowsTo start turns now → is_idle now ≡ true
    → BelongInTurns (turns ++ Hears k told ∷ []) truth → (event : Event) × (truth ≡ reported_in turns ++ event ∷ []) × IsNobodys event
none_owed turns now k told truth f idle b =
    let left = stands_behind turns (Hears k told ∷ []) now truth f idle b in
    let one = one_owed k told left.2.among left.2.serves in
    (one.0, left.1 ∙ ap (λ (es : List Event). reported_in turns ++ es) one.1, one.2)
