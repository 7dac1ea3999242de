-- The first description of a row in a server's bytes, and the names of its columns.
-- PostgreSQL manual, "Message Formats": RowDescription.
use Rattle.std.specs.Prelude.{◌≡◌, ◌⊎◌, ℕ, Bool, List, [], ◌∷◌, ◌++◌, map, Option, Some, None, Result, Ok}
use Rattle.std.specs.List.{AllByRecursion}
use Rattle.pgp_base.specs.Items.{CountedItems}
use Rattle.pgp_base.specs.Walk.{Walk}
use Rattle.pgp_base.specs.declared.error.Error.{Error}
use Rattle.pgp_base.specs.Cause.{WantsMemory}
use Rattle.pgp_message.specs.BackendMessage.{Message, RowDescription}
use Rattle.pgp_message.specs.Items.{FieldPart, FieldSpelled, FieldRefused}
use Rattle.pgp_message.specs.Parts.{CountedBytes}
use Rattle.pgp_message.specs.Stream.{BackendRun, Frames}
use Rattle.pgp_uses.specs.declared.columns.NamesError.{NamesError}
use Rattle.pgp_uses.specs.declared.columns.NamesError.TheVariants.{NoDescription, Refused}

-- a frame's result that describes no row
abbrev pub IsOther : Result Message Error → Type 0
IsOther (Ok (RowDescription row)) = ⊥
IsOther _ = Unit {0}

-- frames of the front of a stream, none of which describes a row, and what stands after them
pub record Passed (bytes rest : List ℕ) : Type 0 where
  pub results : List (Result Message Error)
  pub frames : Frames bytes results rest
  pub others : AllByRecursion IsOther results

-- the first description in a server's bytes
pub record IsFirst (bytes : List ℕ) (row : CountedBytes) : Type 0 where
  pub before : List (Result Message Error)
  pub others : AllByRecursion IsOther before
  pub rest : List ℕ
  pub frames : Frames bytes (before ++ Ok (RowDescription row) ∷ []) rest

-- no frame of the whole stream is one
pub record HasNone (bytes : List ℕ) : Type 0 where
  pub results : List (Result Message Error)
  pub others : AllByRecursion IsOther results
  pub stopped : Bool
  pub rest : List ℕ
  pub run : BackendRun bytes results stopped rest

-- the columns of the message, if it describes a row: what a walk over them is to give, and its end
abbrev pub Columns : Message → Option (Walk FieldPart) → Type 0
Columns (RowDescription row) (Some walk) = CountedItems FieldSpelled FieldRefused row.count row.storage walk.items walk.end
Columns (RowDescription row) None = ⊥
Columns m (Some walk) = ⊥
Columns m None = Unit {0}

-- the columns of the first description: so many and no more where there is no end, and else the reason why they break off
pub record FirstColumns (bytes : List ℕ) (columns : List FieldPart) (end : Option Error) : Type 0 where
  pub row : CountedBytes
  pub first : IsFirst bytes row
  pub items : CountedItems FieldSpelled FieldRefused row.count row.storage columns end

abbrev pub Describes : List ℕ → Option (Walk FieldPart) → Type 0
Describes bytes (Some walk) = FirstColumns bytes walk.items walk.end
Describes bytes None = HasNone bytes

-- the columns of the first description have these names
abbrev pub HasNames : List ℕ → List (List ℕ) → Type 0
HasNames bytes names = (columns : List FieldPart) × FirstColumns bytes columns None × (names ≡ map (λ column. column.name) columns)

-- the columns of the first description break off
abbrev pub HasBroken : List ℕ → Error → Type 0
HasBroken bytes e = (columns : List FieldPart) × FirstColumns bytes columns (Some e)

-- Why there are no names. `lacks` says that memory for them was refused.
abbrev pub NamesRefused : Type 0 → List ℕ → NamesError → Type 0
NamesRefused lacks bytes NoDescription = HasNone bytes
NamesRefused lacks bytes (Refused e) = WantsMemory lacks e ⊎ HasBroken bytes e
