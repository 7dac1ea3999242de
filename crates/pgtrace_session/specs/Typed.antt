-- Values as texts: what each frame changes of what is known of types, and the lines of frames with values whose types are known.
-- PostgreSQL manual, "Extended Query", "Message Formats".
use Rattle.std.specs.Prelude.{◌≡◌, ◌⊎◌, ℕ, ℤ, Bool, true, false, ◌==◌, ◌&&◌, ◌||◌, if◌then◌else◌, List, [], ◌∷◌, ◌++◌, drop, length, map, take, Option, None, Some, is_some, Result, Ok, codes}
use mathlib.Core.Logic.{inl, inr}
use Rattle.std.specs.declared.ops.Range.{Range}
use Rattle.pgtrace_session.specs.Common.{Error, Message, BindComplete, CloseComplete, DataRow, NoData, ParameterDescription, ParseComplete, ReadyForQuery, RowDescription, HasPlaces, value_at, ClientMessage, Bind, Close, Describe, Execute, Parse, Query, Sync, ClientError, Part, Binary, Count, Key, Length, ListEnds, Name, Number, Tag, Text, Value, closing, followed, key, opening, Style, LineOf, ending, Side, Beginning, Messages, Replicating, Encrypted, IsTextOf, Object, Statement, Portal, Simple, Column, State, Told}
use Rattle.pgp_base.specs.Items.{CountedItems}
use Rattle.pgp_message.specs.Items.{FieldPart, FieldRefused, FieldSpelled, TypeRefused, TypeSpelled}
use Rattle.pgp_message.specs.Parts.{CountedBytes}
use Rattle.pgtrace_summary.specs.Summary.{text_due}
use Rattle.pgtrace_lines.specs.Client.{counted, signed_part}
use Rattle.pgtrace_lines.specs.Shown.{text_part}
use Rattle.pgtrace_lines.specs.Sides as side
use Rattle.pgtrace_session.specs.declared.placement.Told.TheVariants as told
use Rattle.pgtrace_session.specs.Shelves.{Columns, bare, formatted, is_binary}
use Rattle.pgtrace_session.specs.Types.{Awaited, Types, binds, bound, closed, described, ended, first, no_types, parameters_of, parsed, parses, reached, rows_of, syncs, tells, waits}

-- what a frame was read as
pub data Said : Type 0 where
  Heard : Result Message Error → Said
  Sent : Result ClientMessage ClientError → Said
  Unsaid : Said

abbrev pub said_in : (style : Style) (place : ℕ) (from : Side) (frame line : List ℕ) (to : Side) → LineOf style place from frame line to → Said
said_in style place (side.Server Beginning) frame line to (inl answer) = Unsaid
said_in style place (side.Server Beginning) frame line to (inr first) = Heard first.reported.reported.result
said_in style place (side.Server Messages) frame line to is = Heard is.0.reported.result
said_in style place (side.Server Replicating) frame line to is = Heard is.0.reported.result
said_in style place (side.Server Encrypted) frame line to is = Unsaid
said_in style place (side.Client opened kinds replicating) frame line to is = Sent is.reported.result

-- nothing is looked for where bytes are shown as they are
abbrev pub first_types : (raw named : Bool) → Option Types
first_types raw named = if raw then None else Some (no_types named)

-- ---- a request

abbrev pub about : ℕ → Object → List ℕ → Awaited
about n object name = record { number = n; object = object; name = name; statement = []; formats = []; parameters = [] }

-- what a Describe or a Close is about, by its letter
abbrev pub about_by : ℕ → (variant : ℕ) → List ℕ → Option Awaited
about_by n variant name =
    if variant == 83 then Some (about n Statement name)  -- S
    else if variant == 80 then Some (about n Portal name)  -- P
    else None

-- a parameter of this type
abbrev pub parameter : ℕ → Column
parameter oid = record { oid = oid; binary = false; len = 0 }

-- What a request is about. A Query's rows come from the portal without a name.
abbrev pub asked : ℕ → ClientMessage → Option Awaited
asked n (Parse name query types) = Some (record { number = n; object = Statement; name = name; statement = []; formats = []; parameters = map parameter types })
asked n (Bind portal statement formats values results) = Some (record { number = n; object = Portal; name = portal; statement = statement; formats = map is_binary results; parameters = [] })
asked n (Describe variant name) = about_by n variant name
asked n (Close variant name) = about_by n variant name
asked n (Execute portal max_rows) = Some (about n Portal portal)
asked n (Query query) = Some (about n Simple [])
asked n m = None

-- what it changes when it is sent
abbrev pub announces : ℕ → ClientMessage → Types → Types
announces n (Parse name query types) t = parses n name query (map parameter types) t
announces n (Bind portal statement formats values results) t = binds n portal statement (formatted (map is_binary formats) (parameters_of statement t)) t
announces n Sync t = syncs t
announces n m t = t

abbrev pub sends : ℕ → ClientMessage → Types → Types
sends n m t = waits (asked n m) (announces n m t)

-- ---- a message of the server

abbrev pub column_of : FieldPart → Column
column_of field = record { oid = field.type_oid; binary = is_binary field.format; len = length field.name }

-- one column more, whose name is kept where names are asked for
abbrev pub with_field : (named : Bool) → Columns → FieldPart → Columns
with_field named columns field = record { list = columns.list ++ column_of field ∷ []; names = columns.names ++ (if named then field.name else []) }

-- with the columns of these fields; none are known where a description breaks off
abbrev pub columns_from : (named : Bool) → Columns → List FieldPart → Option Error → Option Columns
columns_from named columns [] None = Some columns
columns_from named columns [] (Some e) = None
columns_from named columns (field ∷ rest) end = columns_from named (with_field named columns field) rest end

abbrev pub columns_of : (named : Bool) → List FieldPart → Option Error → Option Columns
columns_of named fields end = columns_from named (bare []) fields end

-- what a description of columns says
pub record Lists (named : Bool) (row : CountedBytes) (columns : Option Columns) : Type 0 where
  pub fields : List FieldPart
  pub end : Option Error
  pub list : CountedItems FieldSpelled FieldRefused row.count row.storage fields end
  pub is : columns ≡ columns_of named fields end

-- what a description of parameters says; none are known where it breaks off
abbrev pub parameters_in : List ℕ → Option Error → Option (List Column)
parameters_in types None = Some (map parameter types)
parameters_in types (Some e) = None

pub record Gives (row : CountedBytes) (parameters : Option (List Column)) : Type 0 where
  pub types : List ℕ
  pub end : Option Error
  pub list : CountedItems TypeSpelled TypeRefused row.count row.storage types end
  pub is : parameters ≡ parameters_in types end

-- what a message that answers this request changes
abbrev pub Hears : Message → Option Awaited → (old new : Types) → Type 0
Hears (RowDescription row) a old new = (columns : Option Columns) × Lists (is_some old.texts) row columns × (new ≡ described a columns old)
Hears (ParameterDescription row) a old new = (parameters : Option (List Column)) × Gives row parameters × (new ≡ tells a parameters old)
Hears ParseComplete a old new = new ≡ parsed a old
Hears CloseComplete a old new = new ≡ closed a old
Hears NoData a old new = new ≡ described a None old
Hears BindComplete a old new = new ≡ bound a old
Hears (ReadyForQuery status) a old new = new ≡ ended status old
Hears m a old new = new ≡ old

-- the same, where answers come to the request of this number
abbrev pub HearsAt : ℕ → Message → (old new : Types) → Type 0
HearsAt n m old new = Hears m (first n (reached n old).awaited) (reached n old) new

-- ---- a frame

-- what a frame changes, by what is told of requests: nothing is known of types from the first message on that has no place
abbrev pub Learns : Told → Said → (old new : Option Types) → Type 0
Learns told.Lost said old new = new ≡ None
Learns (told.Number n) (Sent (Ok m)) (Some old) new = new ≡ Some (sends n m old)
Learns (told.Answer n sent now) (Heard (Ok m)) (Some old) new = (types : Types) × HearsAt n m old types × (new ≡ Some types)
Learns told said old new = new ≡ old

-- ---- lines

-- A value of this type in this format: where that is the binary one, its text, if it has one, or hex digits.
abbrev pub ShowsBytes : (binary : Bool) (oid : ℕ) (bytes : List ℕ) (shown : Part) → Type 0
ShowsBytes false oid bytes shown = shown ≡ Value (Some bytes)
ShowsBytes true oid bytes shown =
    ((text : List ℕ) × IsTextOf oid bytes text × (shown ≡ Value (Some text)))
    ⊎ (((text : List ℕ) → IsTextOf oid bytes text → ⊥) × (shown ≡ Binary bytes))

abbrev pub ShowsValue : Column → (value : Option (List ℕ)) (shown : Part) → Type 0
ShowsValue c None shown = shown ≡ Value None
ShowsValue c (Some bytes) shown = ShowsBytes c.binary c.oid bytes shown

-- of which no type is known
abbrev pub unknown : Column
unknown = record { oid = 0; binary = false; len = 0 }

abbrev pub column_first : List Column → Column
column_first [] = unknown
column_first (c ∷ rest) = c

-- a line with these values after it, each under the column at its place
abbrev pub ShowsValues : Style → List Column → List (Option (List ℕ)) → (old new : List ℕ) → Type 0
ShowsValues style columns [] old new = new ≡ old
ShowsValues style columns (v ∷ vs) old new = (shown : Part) × ShowsValue (column_first columns) v shown × ShowsValues style (drop 1 columns) vs (followed style old (shown ∷ [])) new

abbrev pub row_front : Style → (place len count : ℕ) → List ℕ
row_front style place len count = followed style (opening style place) (Length len ∷ Tag 68 ∷ Name false (codes "DataRow") ∷ key (codes "values") ∷ Count count ∷ [])

-- the names of columns
abbrev pub names_from : List Column → (names : List ℕ) → List (List ℕ)
names_from [] names = []
names_from (c ∷ rest) names = take c.len names ∷ names_from rest (drop c.len names)

-- as the line of a row has them, where they are asked for
abbrev pub names_parts : (named : Bool) → Columns → List Part
names_parts named columns = if named then counted (codes "columns") (codes "columns") text_part (names_from columns.list columns.names) else []

-- the line of a row with these columns
pub record IsRowLine (style : Style) (place len : ℕ) (named : Bool) (columns : Columns) (row : CountedBytes) (line : List ℕ) : Type 0 where
  pub places : List (Option (Range ℕ))
  pub end : Option Error
  pub values : List ℕ
  pub list : HasPlaces row places end
  pub each : ShowsValues style columns.list (map (value_at row.storage) places) (row_front style place len row.count) values
  pub is : line ≡ followed style (followed style values (ending ListEnds end)) (names_parts named columns) ++ closing style ++ 10 ∷ []

abbrev pub has_binary : List Column → Bool
has_binary [] = false
has_binary (c ∷ rest) = c.binary || has_binary rest

-- the columns are as many as the row announces, and some are in binary format, or names are asked for
abbrev pub fits : (named : Bool) → List Column → CountedBytes → Bool
fits named columns row = (length columns == row.count) && (named || has_binary columns)

abbrev pub ShowsFitting : (fitting : Bool) → Style → (place len : ℕ) → (named : Bool) → Columns → CountedBytes → (old new : List ℕ) → Type 0
ShowsFitting true style place len named columns row old new = IsRowLine style place len named columns row new
ShowsFitting false style place len named columns row old new = new ≡ old

abbrev pub ShowsRow : Style → (place len : ℕ) → (named : Bool) → Option Columns → CountedBytes → (old new : List ℕ) → Type 0
ShowsRow style place len named None row old new = new ≡ old
ShowsRow style place len named (Some columns) row old new = ShowsFitting (fits named columns.list row) style place len named columns row old new

-- the line of a message that answers this request
abbrev pub ShowsHeard : Style → (place len : ℕ) → Message → Option Awaited → Types → (old new : List ℕ) → Type 0
ShowsHeard style place len (DataRow row) a types old new = ShowsRow style place len (is_some types.texts) (rows_of a types) row old new
ShowsHeard style place len m a types old new = new ≡ old

abbrev pub bind_front : Style → (place len : ℕ) → (portal statement : List ℕ) → (formats : List ℤ) → (count : ℕ) → List ℕ
bind_front style place len portal statement formats count =
    followed style (followed style (followed style (followed style (opening style place) (Length len ∷ Tag 66 ∷ Name false (codes "Bind") ∷ [])) (key (codes "portal") ∷ Text portal ∷ key (codes "statement") ∷ Text statement ∷ []))
    (counted (codes "formats") (codes "formats") signed_part formats)) (key (codes "values") ∷ Count count ∷ [])

-- the line of a Bind with these parameters
pub record IsBindLine (style : Style) (place len : ℕ) (parameters : List Column) (portal statement : List ℕ) (formats : List ℤ) (values : List (Option (List ℕ))) (results : List ℤ) (line : List ℕ) : Type 0 where
  pub texts : List ℕ
  pub each : ShowsValues style parameters values (bind_front style place len portal statement formats (length values)) texts
  pub is : line ≡ followed style (followed style texts (ListEnds ∷ [])) (counted (codes "results") (codes "result_formats") signed_part results) ++ closing style ++ 10 ∷ []

abbrev pub ShowsBound : (binary : Bool) → Style → (place len : ℕ) → List Column → (portal statement : List ℕ) → List ℤ → List (Option (List ℕ)) → List ℤ → (old new : List ℕ) → Type 0
ShowsBound true style place len parameters portal statement formats values results old new = IsBindLine style place len parameters portal statement formats values results new
ShowsBound false style place len parameters portal statement formats values results old new = new ≡ old

-- the line of an Execute that runs this text
abbrev pub execute_line : Style → (place len : ℕ) → (portal : List ℕ) → (max_rows : ℤ) → (query : List ℕ) → List ℕ
execute_line style place len portal max_rows query =
    followed style (opening style place) (Length len ∷ Tag 69 ∷ Name false (codes "Execute") ∷ key (codes "portal") ∷ Text portal ∷ Key (codes "rows") (codes "max_rows") ∷ Number max_rows ∷ key (codes "query") ∷ Text query ∷ []) ++ closing style ++ 10 ∷ []

-- where texts are known
abbrev pub executed : Option State → Style → (place len : ℕ) → (portal : List ℕ) → (max_rows : ℤ) → (line : List ℕ) → List ℕ
executed None style place len portal max_rows line = line
executed (Some s) style place len portal max_rows line = execute_line style place len portal max_rows (text_due portal s)

-- the line of a request
abbrev pub ShowsSent : Style → (place len : ℕ) → ClientMessage → Types → (old new : List ℕ) → Type 0
ShowsSent style place len (Bind portal statement formats values results) types old new =
    ShowsBound (has_binary types.binds) style place len types.binds portal statement formats values results old new
ShowsSent style place len (Execute portal max_rows) types old new = new ≡ executed types.texts style place len portal max_rows old
ShowsSent style place len m types old new = new ≡ old

-- the line of a frame, where so much is known after it
abbrev pub ShowsTyped : Style → (place len : ℕ) → Told → Said → Option Types → (old new : List ℕ) → Type 0
ShowsTyped style place len (told.Answer n sent now) (Heard (Ok m)) (Some types) old new = ShowsHeard style place len m (first n types.awaited) types old new
ShowsTyped style place len (told.Number n) (Sent (Ok m)) (Some types) old new = ShowsSent style place len m types old new
ShowsTyped style place len told said types old new = new ≡ old
