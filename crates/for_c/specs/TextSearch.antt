-- Texts to be searched, and what they are searched for, as C has them.
use Rattle.std.specs.Prelude.{◌≡◌, ◌≢◌, ℕ, ◌+◌, ◌<◌, ◌≤◌, ◌^◌, ◌-◌, Bool, false, List, [], ◌∷◌, length, None, Some, nat_eq, nat_le, if◌then◌else◌}
use Rattle.std.specs.Int.{w16, from_be_bytes}
use Rattle.std.specs.Str.{is_utf8}
use Rattle.pgp_base.specs.Cause.{Cause, either, text_cause}
use Rattle.pgp_base.specs.Walk.{Walk}
use Rattle.pgp_base.specs.Wire.{uint16}
use Rattle.pgp_base.specs.declared.error.Error.TheVariants.{NotUtf8}
use Rattle.pgp_types.specs.Format.{Format}
use Rattle.pgp_values.specs.Decimal.{uint16_part}
use Rattle.pgp_values.specs.List.{Item, list}
use Rattle.pgp_values.specs.Tsquery.{QueryItem, operand, negation, conjunction, disjunction, phrase, query_item}
use Rattle.pgp_values.specs.Tsvector.{lexeme}
use Rattle.for_c.specs.Parts.{IsInside, part, stands}
use Rattle.for_c.specs.Walks.{rest}
use Rattle.for_c.specs.declared.tsquery.PgpQueryItem.{PgpQueryItem}
use Rattle.for_c.specs.declared.tsquery.PgpQueryNode.{PgpQueryNode}
use Rattle.for_c.specs.declared.tsvector.PgpLexeme.{PgpLexeme}
use Rattle.for_c.specs.declared.tsvector.PgpWord.{PgpWord}

-- a text has to be UTF-8
abbrev pub utf8_cause : List ℕ → Cause
utf8_cause z = if is_utf8 z then None else Some NotUtf8

-- Lexemes: the text, and the positions with their weights, numbers of two bytes.

-- the numbers that two bytes each spell
abbrev pub numbers : List ℕ → List ℕ
numbers (a ∷ b ∷ more) = from_be_bytes w16 (a ∷ b ∷ []) ∷ numbers more
numbers rest = []

-- the text at its place, and the numbers at the cursor
abbrev pub lexeme_in : List ℕ → PgpLexeme → List ℕ × List ℕ
lexeme_in bytes l = (stands bytes l.text, numbers (rest bytes l.positions))

-- both lie before this place, and so many numbers fill what is at the cursor
abbrev pub IsLexemeInside : ℕ → PgpLexeme → Type 0
IsLexemeInside size l = IsInside size l.text × (l.positions.end ≤ size) × (l.positions.end ≡ l.positions.at + (l.positions.left + l.positions.left))

-- a position and its weight: the number in the lowest 14 bits, the weight in the highest 2
abbrev pub position : Item ℕ
position = record { IsValue = λ n. n < 2 ^ 16; written = uint16; cause = λ _. None; part = uint16_part }

abbrev pub word_of : PgpWord → List ℕ × List ℕ
word_of w = (w.text.now, w.positions.now)

-- a lexeme that is written: one of the core's, whose text has to be UTF-8
abbrev pub word : Item (List ℕ × List ℕ)
word = record lexeme { cause = λ l. either (utf8_cause l.0) (lexeme.cause l) }

abbrev pub words : Format (List (List ℕ × List ℕ)) (Walk (List ℕ × List ℕ))
words = list word

-- Items of a query. The kinds are 0 for an operand, 1 not, 2 and, 3 or, 4 a phrase.

abbrev pub operator_of : ℕ → ℕ → QueryItem
operator_of kind distance = if nat_eq kind 1 then negation else (if nat_eq kind 2 then conjunction else (if nat_eq kind 3 then disjunction else phrase distance))

abbrev pub item_of : ℕ → List ℕ → ℕ → Bool → ℕ → QueryItem
item_of kind z weights prefix distance = if nat_eq kind 0 then operand z weights prefix else operator_of kind distance

-- the text of an operand stands at its place
abbrev pub query_item_in : List ℕ → PgpQueryItem → QueryItem
query_item_in bytes i = item_of i.kind (stands bytes i.text) i.weights i.is_prefix i.distance

-- what only an operand has, and what only a phrase has, is 0 in the others
abbrev pub HasNoOther : PgpQueryItem → Type 0
HasNoOther i = (i.kind ≢ 0 → (i.text ≡ part 0 0) × (i.weights ≡ 0) × (i.is_prefix ≡ false)) × (i.kind ≢ 4 → i.distance ≡ 0)

-- the kind is one, and the text lies before this place
abbrev pub IsQueryItemInside : ℕ → PgpQueryItem → Type 0
IsQueryItemInside size i = (i.kind ≤ 4) × IsInside size i.text × HasNoOther i

abbrev pub is_node : PgpQueryNode → Bool
is_node n = nat_le n.kind 4

abbrev pub node_of : PgpQueryNode → QueryItem
node_of n = item_of n.kind n.text.now n.weights n.is_prefix n.distance

-- an item that is written: one of the core's, where the text of an operand has to be UTF-8
abbrev pub node_cause : QueryItem → Cause
node_cause (operand z weights prefix) = either (utf8_cause z) (text_cause z)
node_cause x = None

abbrev pub node : Item QueryItem
node = record query_item { cause = node_cause }

abbrev pub nodes : Format (List QueryItem) (Walk QueryItem)
nodes = list node

-- Private: the item that ends at this place.
abbrev pub operator : ℕ → ℕ → PgpQueryItem
operator kind distance = record { text = part 0 0; distance = distance; kind = kind; weights = 0; is_prefix = false }

abbrev pub item_before : QueryItem → ℕ → PgpQueryItem
item_before (operand z weights prefix) end = record { text = part (end - (length z + 1)) (length z); distance = 0; kind = 0; weights = weights; is_prefix = prefix }
item_before negation end = operator 1 0
item_before conjunction end = operator 2 0
item_before disjunction end = operator 3 0
item_before (phrase distance) end = operator 4 distance
