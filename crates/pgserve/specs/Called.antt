-- Which of the script's statements answers a call of a function.
use Rattle.std.specs.Prelude.{◌≡◌, ◌≢◌, ◌⊎◌, ℕ, List, get_or}
use Rattle.std.specs.List.{All}
use Rattle.pgserve.specs.First.{IsFirst}
use Rattle.pgserve.specs.declared.script.By.TheVariants.{Function}
use Rattle.pgserve.specs.declared.script.Statement.{Statement}

-- Beside the places of some first answers stands that of the answer of this time: it is that one; or of any other the first itself.
abbrev pub IsOfNow : (turns : List (ℕ × ℕ)) → List Statement → (first now : Statement) → Type 0
IsOfNow turns statements first now =
    ((turn : ℕ × ℕ) × IsFirst (λ (other : ℕ × ℕ). other.0 ≡ first.place) turns turn × (now ≡ get_or statements turn.1 first))
    ⊎ (All (λ (other : ℕ × ℕ). other.0 ≢ first.place) turns × (now ≡ first))

-- The answer of this time by the first one; where that is one to something else, the first itself.
abbrev pub IsCalledNow : (turns : List (ℕ × ℕ)) → List Statement → (first called : Statement) → Type 0
IsCalledNow turns statements first called = (now : Statement) × IsOfNow turns statements first now
    × (((now.by ≡ first.by) × (called ≡ now)) ⊎ ((now.by ≢ first.by) × (called ≡ first)))

-- It answers calls of this function, by the first that does.
abbrev pub IsCalled : (function : ℕ) (turns : List (ℕ × ℕ)) → List Statement → Statement → Type 0
IsCalled function turns statements called = (called.by ≡ Function function)
    × ((first : Statement) × IsFirst (λ (other : Statement). other.by ≡ Function function) statements first × IsCalledNow turns statements first called)
