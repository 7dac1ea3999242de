-- The bodies of the two messages that `pgp_message` doesn't read. PostgreSQL manual, "Message Formats".
use Rattle.std.specs.Prelude.{◌≡◌, ℕ, ◌<◌, ◌^◌, All, List, [], ◌∷◌, length, Option, None}
use Rattle.pgtrace_lines.specs.Common.{w16, from_be_bytes, counted, nullable, uint16}
use Rattle.pgp_base.specs.Cause.{count_cause, nullable_cause}

-- FunctionCallResponse: the result of a function, or a null
pub record IsCallResult (body : List ℕ) (value : Option (List ℕ)) : Type 0 where
  pub fits : nullable_cause value ≡ None
  pub whole : body ≡ nullable value

-- CopyBothResponse: a format, and those of the columns
pub record IsCopyBoth (body : List ℕ) (format : ℕ) (formats : List ℕ) : Type 0 where
  pub small : All (λ n. n < 2 ^ 16) formats
  pub fits : count_cause (length formats) ≡ None
  pub whole : body ≡ format ∷ counted uint16 formats

-- *private*: the numbers that bytes spell, two a number
abbrev pub numbers_of : List ℕ → List ℕ
numbers_of (a ∷ b ∷ rest) = from_be_bytes w16 (a ∷ b ∷ []) ∷ numbers_of rest
numbers_of rest = []
