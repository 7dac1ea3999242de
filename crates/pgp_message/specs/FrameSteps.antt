-- Private: how frames that stand whole in their bytes are read, one after another.
use Rattle.std.specs.Prelude.{◌≡◌, ℕ, List, [], ◌∷◌, ◌++◌, Result}
use Rattle.pgp_base.specs.declared.error.Error.{Error}
use Rattle.pgp_message.specs.BackendMessage.{Message}
use Rattle.pgp_message.specs.Stream.{TakesFrame}

-- a frame was read, and its result joined the list
pub record TakesOnto (old new : List ℕ) (before after : List (Result Message Error)) : Type 0 where
  pub result : Result Message Error
  pub takes : TakesFrame old result new
  pub grown : after ≡ before ++ result ∷ []
