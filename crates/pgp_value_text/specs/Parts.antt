-- The texts of parts, one after the other.
use Rattle.std.specs.Prelude.{◌≡◌, ℕ, ◌+◌, ◌==◌, if◌then◌else◌, Bool, true, false, List, [], ◌∷◌, ◌++◌, length, None, Result, Ok, Err}
use Rattle.pgp_base.specs.Walk.{Walk, hint_of}

-- the parts from a place on, each with what stands around it there, after what stands there already
abbrev pub ShowsEach : {V : Type 0} → (V → List ℕ → Type 0) → (ℕ → List ℕ → List ℕ) → ℕ → List V → List ℕ → List ℕ → Type 0
ShowsEach shows placed place [] old new = new ≡ old
ShowsEach shows placed place (v ∷ vs) old new = (text : List ℕ) × shows v text × ShowsEach shows placed (place + 1) vs (old ++ placed place text) new

-- with commas between them
abbrev pub listed : ℕ → List ℕ → List ℕ
listed place text = (if place == 0 then [] else 44 ∷ []) ++ text

-- a list between what begins and what ends it: as many parts as its count says, and no more bytes
abbrev pub ShowsList : {V : Type 0} → (V → List ℕ → Type 0) → List ℕ → List ℕ → Walk V → List ℕ → Type 0
ShowsList shows begin end w text = (w.end ≡ None) × (length w.items ≡ (hint_of w.announced).0)
    × (inner : List ℕ) × ShowsEach shows listed 0 w.items begin inner × (text ≡ inner ++ end)

-- Private: what is said of a part that was to be added.
abbrev pub Pushes : {E : Type 0} → (List ℕ → Type 0) → (List ℕ → List ℕ) → Type 0 → List ℕ → List ℕ → Result Bool E → Type 0
Pushes shows placed lacks old new (Ok true) = (text : List ℕ) × shows text × (new ≡ old ++ placed text)
Pushes shows placed lacks old new (Ok false) = (text : List ℕ) → shows text → ⊥
Pushes shows placed lacks old new (Err e) = lacks

-- and of all
abbrev pub PushesAll : {V E : Type 0} → (V → List ℕ → Type 0) → (ℕ → List ℕ → List ℕ) → ℕ → Walk V → Type 0 → List ℕ → List ℕ → Result Bool E → Type 0
PushesAll shows placed size walk lacks old new (Ok true) = (walk.end ≡ None) × (length walk.items ≡ size) × ShowsEach shows placed 0 walk.items old new
PushesAll shows placed size walk lacks old new (Ok false) =
    walk.end ≡ None → length walk.items ≡ size → (all : List ℕ) → ShowsEach shows placed 0 walk.items old all → ⊥
PushesAll shows placed size walk lacks old new (Err e) = lacks
