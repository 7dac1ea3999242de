-- Private: reading an item of a tsquery from the left, as a function.
use Rattle.std.specs.Prelude.{ℕ, List, Result, Ok, Err, nat_eq, if◌then◌else◌}
use Rattle.pgp_base.specs.declared.error.Error.{Error}
use Rattle.pgp_base.specs.declared.error.Error.TheVariants.{UnknownTag}
use Rattle.pgp_base.specs.PartReading.{◌>>=◌, byte_at, text_at}
use Rattle.pgp_types.specs.PartReading.{Reader, and_then, is_set}
use Rattle.pgp_values.specs.DecimalReading.{uint16_at}
use Rattle.pgp_values.specs.Tsquery.{QueryItem, operand, negation, conjunction, disjunction, phrase}

abbrev pub operand_of : ℕ → ℕ → List ℕ → List ℕ → Result (QueryItem × List ℕ) Error
operand_of weights flag z rest = Ok (operand z weights (is_set flag), rest)

unfoldable pub operand_at : Reader QueryItem
operand_at bytes = byte_at bytes >>= λ w. byte_at w.1 >>= λ f. and_then (text_at f.1) (operand_of w.0 f.0)

abbrev pub phrase_of : ℕ → List ℕ → Result (QueryItem × List ℕ) Error
phrase_of distance rest = Ok (phrase distance, rest)

abbrev pub phrase_at : Reader QueryItem
phrase_at bytes = and_then (uint16_at bytes) phrase_of

abbrev pub operator_of : ℕ → List ℕ → Result (QueryItem × List ℕ) Error
operator_of n rest = if nat_eq n 1 then Ok (negation, rest) else (if nat_eq n 2 then Ok (conjunction, rest) else (if nat_eq n 3 then Ok (disjunction, rest)
    else (if nat_eq n 4 then phrase_at rest else Err (UnknownTag n))))

unfoldable pub operator_at : Reader QueryItem
operator_at bytes = byte_at bytes >>= λ x. operator_of x.0 x.1

abbrev pub query_of : ℕ → List ℕ → Result (QueryItem × List ℕ) Error
query_of kind rest = if nat_eq kind 1 then operand_at rest else (if nat_eq kind 2 then operator_at rest else Err (UnknownTag kind))

unfoldable pub query_at : Reader QueryItem
query_at bytes = byte_at bytes >>= λ x. query_of x.0 x.1
