-- What is known under names: of a statement or a portal its columns, or of a statement its parameters.
use Rattle.std.specs.Prelude.{ℕ, suc, ℤ, pos, negsuc, Bool, false, ◌==◌, List, [], ◌∷◌, get_or, Option, None, Some}
use Rattle.pgtrace_session.specs.Common.{put, without, Column}

-- columns, and their names one after another, of each as many bytes as the column says; or parameters, which have none
pub record Columns : Type 0 where
  pub list : List Column
  pub names : List ℕ

abbrev pub bare : List Column → Columns
bare list = record { list = list; names = [] }

-- columns that are kept under a name, in the place of others; or none
abbrev pub kept : List ℕ → Option Columns → List (List ℕ × Columns) → List (List ℕ × Columns)
kept name None shelf = without name shelf
kept name (Some columns) shelf = put name columns shelf

-- ---- formats: 0 is text, 1 is binary

abbrev pub is_binary : ℤ → Bool
is_binary (pos n) = n == 1
is_binary (negsuc n) = false

-- that of the column at this place: where there are none all are text, and one is that of all
abbrev pub binary_at : List Bool → ℕ → Bool
binary_at (only ∷ []) at = only
binary_at formats at = get_or formats at false

abbrev pub formatted_from : ℕ → List Bool → List Column → List Column
formatted_from at formats [] = []
formatted_from at formats (c ∷ rest) = record c { binary = binary_at formats at } ∷ formatted_from (suc at) formats rest

-- the columns in these formats
abbrev pub formatted : List Bool → List Column → List Column
formatted formats columns = formatted_from 0 formats columns

abbrev pub in_formats : List Bool → Columns → Columns
in_formats formats columns = record columns { list = formatted formats columns.list }
