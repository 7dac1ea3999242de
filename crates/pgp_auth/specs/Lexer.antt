-- How a server reads string constants and quoted identifiers: PostgreSQL manual, sections 4.1.2.1 and
-- 4.1.2.2 (string constants, and those with escapes) and 4.1.1 (identifiers). Of the escapes it has
-- the doubled quote and the doubled backslash. It reads bytes: in UTF-8 no byte of a character past
-- ASCII is a quote or a backslash.
use Rattle.std.specs.Prelude.{◌≡◌, ◌≢◌, ℕ, Bool, true, false, not, List, [], ◌∷◌, ◌++◌, Some, slice_get, codes}

abbrev pub single_quote : ℕ
single_quote = 39

abbrev pub double_quote : ℕ
double_quote = 34

abbrev pub backslash : ℕ
backslash = 92

-- one piece between the quotes q, and the byte that it stands for; `slashes` says whether a backslash
-- begins an escape
pub data Piece (q : ℕ) (slashes : Bool) : List ℕ → ℕ → Type 0 where
  two_quotes : Piece q slashes (q ∷ q ∷ []) q
  two_slashes : slashes ≡ true → Piece q slashes (backslash ∷ backslash ∷ []) backslash
  itself : {c : ℕ} → c ≢ q → (slashes ≡ true → c ≢ backslash) → Piece q slashes (c ∷ []) c

-- what stands between the quotes is a join of pieces, and what it is read as
pub data Body (q : ℕ) (slashes : Bool) : List ℕ → List ℕ → Type 0 where
  empty : Body q slashes [] []
  join : {piece body z : List ℕ} {c : ℕ} → Piece q slashes piece c → Body q slashes body z → Body q slashes (piece ++ body) (c ∷ z)

-- a body between its quotes
pub record Quoted (q : ℕ) (slashes : Bool) (text z : List ℕ) : Type 0 where
  pub body : List ℕ
  pub text_is : text ≡ q ∷ (body ++ q ∷ [])
  pub reads : Body q slashes body z

-- a string constant that is read as z, where standard_conforming_strings is `on`: '..', where a
-- backslash begins an escape if the setting is off, or a space and E'..', where it does in any case
pub data Literal (on : Bool) : List ℕ → List ℕ → Type 0 where
  plain : {text z : List ℕ} → Quoted single_quote (not on) text z → Literal on text z
  escape : {text z : List ℕ} → Quoted single_quote true text z → Literal on (codes " E" ++ text) z

-- the first of the two forms
abbrev pub IsPlain : List ℕ → Type 0
IsPlain text = slice_get text 0 ≡ Some single_quote

-- a byte that stands for itself in a string constant of either form
abbrev pub NeedsNoEscape : ℕ → Type 0
NeedsNoEscape byte = (byte ≢ single_quote) × (byte ≢ backslash)

-- a quoted identifier that is read as z
abbrev pub Identifier : List ℕ → List ℕ → Type 0
Identifier text z = Quoted double_quote false text z
