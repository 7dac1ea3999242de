-- What a writer took.
use Rattle.std.specs.Prelude.{List, ℕ, Option}
use Rattle.std.specs.Io.{StartsWith}
use Rattle.std.specs.Io.KnownBytes.{Appends}

-- it took a front of the bytes, and nothing else
pub record AppendsFront (old new : Option (List ℕ)) (bytes : List ℕ) : Type 0 where
  pub taken : List ℕ
  pub is_front : StartsWith bytes taken
  pub written : Appends old new taken
