-- How a listing looks.
use Rattle.std.specs.Prelude.{ℕ, ◌-◌, Bool, false, not, ◌&&◌, ◌||◌, List, [], ◌∷◌, ◌++◌, length, take, get_or, Option, None, Some, ◌==◌, if◌then◌else◌, codes}
use Rattle.pgtrace_lines.specs.Common.{list_any, bytes_eq, Form, Columns, Json, Style}

-- The style of its lines, the names of the messages that are listed (all of them where none is named) and of those that aren't, whether lines have colours, and of
-- a recording how many microseconds after its request an answer comes at least that is listed.
pub record View : Type 0 where
  pub style : Style
  pub only : List (List ℕ)
  pub except : List (List ℕ)
  pub colored : Bool
  pub slower : ℕ

-- each line, as it is
abbrev pub plain : Style → View
plain style = record { style = style; only = []; except = []; colored = false; slower = 0 }

-- whether a word is one of these
abbrev pub has_word : List (List ℕ) → List ℕ → Bool
has_word has word = list_any (λ other. bytes_eq other word) has

-- whether messages of a name are listed
abbrev pub is_listed : View → List ℕ → Bool
is_listed view name = (length view.only == 0 || has_word view.only name) && not (has_word view.except name)

-- the escape sequences by which a terminal shows what follows in red, in yellow, and as before
abbrev pub red : List ℕ
red = 27 ∷ codes "[31m"

abbrev pub yellow : List ℕ
yellow = 27 ∷ codes "[33m"

abbrev pub uncolored : List ℕ
uncolored = 27 ∷ codes "[0m"

-- the colour of a line that has this name
abbrev pub color_named : List ℕ → Option (List ℕ)
color_named name =
    if bytes_eq name (codes "ErrorResponse") then Some red
    else if bytes_eq name (codes "fault") then Some red
    else if bytes_eq name (codes "NoticeResponse") then Some yellow
    else None

-- objects have none
abbrev pub color_by : Form → List ℕ → Option (List ℕ)
color_by Columns name = color_named name
color_by Json name = None

abbrev pub color_of : View → List ℕ → Option (List ℕ)
color_of view name = if view.colored then color_by view.style.form name else None

abbrev pub ends_in_newline : List ℕ → Bool
ends_in_newline line = get_or line (length line - 1) 0 == 10

-- A line in a colour: between two sequences, of which the second stands before its newline. (What has no newline at its end has no colour.)
abbrev pub painted : Option (List ℕ) → (line : List ℕ) → List ℕ
painted None line = line
painted (Some color) line = if ends_in_newline line then color ++ take (length line - 1) line ++ uncolored ++ 10 ∷ [] else line

-- what stands in the listing of a line that has this name
abbrev pub shown : View → (name line : List ℕ) → List ℕ
shown view name line = if is_listed view name then painted (color_of view name) line else []
