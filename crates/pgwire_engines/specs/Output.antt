-- What the program writes for a stream of backend messages.
use Rattle.std.specs.Prelude.{◌≡◌, ℕ, Bool, true, false, List, [], ◌∷◌, ◌++◌, length, Result, Ok, Err, codes, decimal}
use Rattle.std.specs.List.{flat_map}
use Rattle.pgp_base.specs.Error.{number_of}
use Rattle.pgp_base.specs.declared.error.Error.{Error}
use Rattle.pgp_message.specs.BackendMessage.{Message}
use Rattle.pgp_message.specs.Names.{name_of}
use Rattle.pgp_message.specs.Stream.{BackendRun}

-- a text on a line of its own
abbrev pub line : List ℕ → List ℕ
line text = text ++ 10 ∷ []

-- the line of a frame's result
abbrev pub line_of : Result Message Error → List ℕ
line_of (Ok m) = line (name_of m)
line_of (Err e) = line (codes "fault " ++ decimal (number_of e))

-- the last line, where n bytes are left
abbrev pub last_line : Bool → ℕ → List ℕ
last_line false n = line (codes "rest " ++ decimal n)
last_line true n = line (codes "stopped rest " ++ decimal n)

-- What is written for an input, and the status.
pub record BackendOutput (input output : List ℕ) (status : ℕ) : Type 0 where
  pub results : List (Result Message Error)
  pub stopped : Bool
  pub rest : List ℕ
  pub run : BackendRun input results stopped rest
  pub text : output ≡ flat_map line_of results ++ last_line stopped (length rest)
  pub fine : status ≡ 0
