-- Private: what one piece of a stream adds to its listing.
use Rattle.std.specs.Prelude.{◌≡◌, ℕ, List, ◌++◌, Result}
use Rattle.std.specs.List.{flat_map}
use Rattle.pgp_base.specs.declared.error.Error.{Error}
use Rattle.pgp_message.specs.BackendMessage.{Message}
use Rattle.pgp_stream.specs.ServerStream.{Reading, GoesOn, HandsOut}
use Rattle.pgwire_engines.specs.Output.{line_of}

-- A piece was fed to the parser, its results were taken, and their lines added.
pub record ListsPiece (piece : List ℕ) (old new : Reading) (lines more : List ℕ) : Type 0 where
  pub between : Reading
  pub fed : GoesOn piece old between
  pub results : List (Result Message Error)
  pub taken : HandsOut results between new
  pub text : more ≡ lines ++ flat_map line_of results
