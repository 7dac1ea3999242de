-- What texts are searched for: operands and operators, an operator before its operands.
-- PostgreSQL manual, "Text Search Types"; the layout as a server sends it (`tsquerysend`).
use Rattle.std.specs.Prelude.{◌≡◌, ◌≢◌, ◌⊎◌, ℕ, ◌<◌, ◌^◌, Bool, true, false, List, [], ◌∷◌, length, None, ⊤}
use Rattle.std.specs.Str.{IsUtf8}
use Rattle.pgp_base.specs.declared.error.Error.{Error}
use Rattle.pgp_base.specs.declared.error.Error.TheVariants.{UnexpectedEof, NotUtf8, UnknownTag}
use Rattle.pgp_base.specs.Cause.{Cause, text_cause}
use Rattle.pgp_base.specs.Walk.{Walk}
use Rattle.pgp_base.specs.Wire.{uint16, text}
use Rattle.pgp_types.specs.Array.{flag_of}
use Rattle.pgp_types.specs.Format.{Format}
use Rattle.pgp_types.specs.Part.{Part, only}
use Rattle.pgp_values.specs.declared.tsquery.TsOperand.{TsOperand}
use Rattle.pgp_values.specs.declared.tsquery.TsItem.{TsItem as Seen}
use Rattle.pgp_values.specs.declared.tsquery.TsItem.TheVariants.{Operand, Not, And, Or, Phrase}
use Rattle.pgp_values.specs.List.{Item, list}
use Rattle.pgp_values.specs.Tsvector.{string_part}

-- An operand is a text, the weights that a lexeme may have, by a bit for each, and whether a lexeme need only begin so. Of a phrase the number is
-- how many places its operands are apart.
pub data QueryItem : Type 0 where
  operand : List ℕ → ℕ → Bool → QueryItem
  negation : QueryItem
  conjunction : QueryItem
  disjunction : QueryItem
  phrase : ℕ → QueryItem

abbrev pub query_bytes : QueryItem → List ℕ
query_bytes (operand z weights prefix) = 1 ∷ weights ∷ flag_of prefix ∷ text z
query_bytes negation = 2 ∷ 1 ∷ []
query_bytes conjunction = 2 ∷ 2 ∷ []
query_bytes disjunction = 2 ∷ 3 ∷ []
query_bytes (phrase distance) = 2 ∷ 4 ∷ uint16 distance

abbrev pub IsQueryItem : QueryItem → Type 0
IsQueryItem (operand z weights prefix) = IsUtf8 z
IsQueryItem (phrase distance) = distance < 2 ^ 16
IsQueryItem x = ⊤

abbrev pub query_cause : QueryItem → Cause
query_cause (operand z weights prefix) = text_cause z
query_cause x = None

-- a text and the byte 0 that ends it
abbrev pub text_part : Part (List ℕ)
text_part = only IsUtf8 NotUtf8 string_part

-- any flag but 0 is set
abbrev pub IsSet : Bool → ℕ → Type 0
IsSet false flag = flag ≡ 0
IsSet true flag = flag ≢ 0

abbrev pub QuerySpelled : QueryItem → List ℕ → Type 0
QuerySpelled (operand z weights prefix) front = (flag : ℕ) × (t : List ℕ) × text_part.Spelled z t × (front ≡ 1 ∷ weights ∷ flag ∷ t) × IsSet prefix flag
QuerySpelled (phrase distance) front = (distance < 2 ^ 16) × (front ≡ query_bytes (phrase distance))
QuerySpelled x front = front ≡ query_bytes x

-- after the byte of an operand, and after that of an operator
abbrev pub OperandRefused : List ℕ → Error → Type 0
OperandRefused [] e = e ≡ UnexpectedEof
OperandRefused (weights ∷ []) e = e ≡ UnexpectedEof
OperandRefused (weights ∷ flag ∷ rest) e = text_part.Refused rest e

abbrev pub IsOperator : ℕ → Type 0
IsOperator n = (n ≡ 1) ⊎ ((n ≡ 2) ⊎ ((n ≡ 3) ⊎ (n ≡ 4)))

abbrev pub OperatorRefused : List ℕ → Error → Type 0
OperatorRefused [] e = e ≡ UnexpectedEof
OperatorRefused (operator ∷ rest) e = ((operator ≡ 4) × ((length rest < 2) × (e ≡ UnexpectedEof))) ⊎ ((IsOperator operator → ⊥) × (e ≡ UnknownTag operator))

abbrev pub QueryRefused : List ℕ → Error → Type 0
QueryRefused [] e = e ≡ UnexpectedEof
QueryRefused (kind ∷ rest) e = ((kind ≡ 1) × OperandRefused rest e) ⊎ (((kind ≡ 2) × OperatorRefused rest e) ⊎ (((kind ≢ 1) × (kind ≢ 2)) × (e ≡ UnknownTag kind)))

abbrev pub query_item : Item QueryItem
query_item = record { IsValue = IsQueryItem; written = query_bytes; cause = query_cause; part = record { Spelled = QuerySpelled; Refused = QueryRefused } }

abbrev pub tsquery : Format (List QueryItem) (Walk QueryItem)
tsquery = list query_item

abbrev pub operand_of : TsOperand → QueryItem
operand_of o = operand o.text.now o.weights o.is_prefix

abbrev pub shown_query : Seen → QueryItem
shown_query (Operand o) = operand_of o
shown_query Not = negation
shown_query And = conjunction
shown_query Or = disjunction
shown_query (Phrase distance) = phrase distance
