-- What `find` gives is the first.
use Rattle.std.proofs.Common.{◌≡◌, ℕ, ◌<◌, List, length, Option, Some, None, IfSome, Bor}
use Rattle.std.specs.List.{AllWithin, HoldsAt}
use Rattle.std.specs.Option.{MatchOption}
use Rattle.pgserve.specs.First.{IsFirst}

pub first_found : {X : Type 0} (Is : X → Type 0) (xs : List X) (found : Option (Bor X))
    → MatchOption found (AllWithin (λ (y : X). Is y → ⊥) xs 0 (length xs)) (λ (x : Bor X). Is x.now × (place : ℕ) × (place < length xs) × HoldsAt (λ (y : X). y ≡ x.now) xs place × AllWithin (λ (y : X). Is y → ⊥) xs 0 place)
    → IfSome found (λ (x : Bor X). IsFirst Is xs x.now)
first_found Is xs None h = tt
first_found Is xs (Some x) h = h
