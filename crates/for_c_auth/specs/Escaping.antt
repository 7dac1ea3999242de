-- String constants.
use Rattle.std.specs.Prelude.{ℕ, List, true, false, ◌↔◌, Contains}
use Rattle.pgp_auth.specs.Lexer.{Literal, IsPlain, backslash}

-- A string constant that is read as z under either setting of standard_conforming_strings, and is plain exactly where z has no
-- backslash: z has one such.
pub record IsLiteral (z text : List ℕ) : Type 0 where
  pub standard : Literal true text z
  pub not_standard : Literal false text z
  pub form : IsPlain text ↔ (¬ Contains z backslash)
