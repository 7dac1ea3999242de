-- What is known of the types of statements and portals. PostgreSQL manual, "Extended Query".
use Rattle.std.specs.Prelude.{ℕ, Bool, false, ◌==◌, nat_lt, if◌then◌else◌, List, [], ◌∷◌, ◌++◌, Option, None, Some, bytes_eq}
use Rattle.pgtrace_session.specs.Common.{option_map, found, Object, Statement, Portal, Simple, Column, State, nothing}
use Rattle.pgtrace_summary.specs.Summary as summary
use Rattle.pgtrace_summary.specs.declared.work.Work.{Work}
use Rattle.pgtrace_summary.specs.declared.work.Work.TheVariants as works
use Rattle.pgtrace_summary.specs.declared.work.Reply.{Reply}
use Rattle.pgtrace_summary.specs.declared.work.Reply.TheVariants as replies
use Rattle.pgtrace_session.specs.Shelves.{Columns, bare, in_formats, kept}

-- A request about a statement or a portal, by its number. A Bind also names a statement, and the formats of its columns. The parameters of a Parse are those
-- that it gives.
pub record Awaited : Type 0 where
  pub number : ℕ
  pub object : Object
  pub name : List ℕ
  pub statement : List ℕ
  pub formats : List Bool
  pub parameters : List Column

-- a portal, and the statement that it was bound to
pub record BoundPortal : Type 0 where
  pub name : List ℕ
  pub statement : List ℕ

-- The requests that the server hasn't answered, in order, since it takes up names in that order; the columns of statements and of portals, as far as it told them;
-- and the portal that was bound last;
-- and the texts that statements and portals have, where names are asked for.
pub record Types : Type 0 where
  pub awaited : List Awaited
  pub statements : List (List ℕ × Columns)
  pub portals : List (List ℕ × Columns)
  pub last : Option BoundPortal
  pub sent : List (List ℕ × Columns)
  pub told : List (List ℕ × Columns)
  pub binds : List Column
  pub parse : ℕ
  pub texts : Option State

-- before the first request
abbrev pub first_texts : (named : Bool) → Option State
first_texts named = if named then Some (nothing false) else None

abbrev pub no_types : (named : Bool) → Types
no_types named = record { awaited = []; statements = []; portals = []; last = None; sent = []; told = []; binds = []; parse = 0; texts = first_texts named }

-- a Parse or a Bind is sent
abbrev pub asks_text : ℕ → Work → (first second : List ℕ) → Option State → Option State
asks_text number work first second texts = option_map (summary.asked (record { number = number; work = work; first = first; second = second })) texts

-- ---- requests

abbrev pub waits : Option Awaited → Types → Types
waits None t = t
waits (Some a) t = record t { awaited = t.awaited ++ a ∷ [] }

-- Answers come in the order of the requests: where one comes to this number, there are none to earlier ones any more.
abbrev pub since : ℕ → List Awaited → List Awaited
since number [] = []
since number (a ∷ rest) = if nat_lt a.number number then since number rest else a ∷ rest

abbrev pub reached : ℕ → Types → Types
reached number t = record t { awaited = since number t.awaited; texts = option_map (summary.reached number) t.texts }

-- the request of this number, where its answers come now
abbrev pub first : ℕ → List Awaited → Option Awaited
first number [] = None
first number (a ∷ rest) = if a.number == number then Some a else None

-- ---- parameters

-- A Parse is sent: from then on what was told of a statement of its name is of another one, and a Bind of it that comes before the next Sync fails with it.
abbrev pub parses : ℕ → (name query : List ℕ) → List Column → Types → Types
parses number name query parameters t = record t { sent = kept name (Some (bare parameters)) t.sent; told = kept name None t.told; parse = number; texts = asks_text number works.Parse name query t.texts }

-- a Sync is sent
abbrev pub syncs : Types → Types
syncs t = record t { sent = [] }

-- a Bind is sent, with these parameters
abbrev pub binds : ℕ → (portal statement : List ℕ) → List Column → Types → Types
binds number portal statement parameters t = record t { binds = parameters; texts = asks_text number works.Bind portal statement t.texts }

-- the parameters of a statement, for a Bind that is sent now; none where they aren't known
abbrev pub parameters_by : (told sent : Option Columns) → List Column
parameters_by (Some parameters) sent = parameters.list
parameters_by None (Some parameters) = parameters.list
parameters_by None None = []

abbrev pub parameters_of : List ℕ → Types → List Column
parameters_of name t = parameters_by (found name t.told) (found name t.sent)

abbrev pub told_by : Object → List ℕ → Option (List Column) → List (List ℕ × Columns) → List (List ℕ × Columns)
told_by Statement name parameters told = kept name (option_map bare parameters) told
told_by Portal name parameters told = told
told_by Simple name parameters told = told

abbrev pub with_told : Object → List ℕ → Option (List Column) → Types → Types
with_told object name parameters t = record t { told = told_by object name parameters t.told }

-- The parameters of a request's statement are told; they are kept where no Parse was sent after it, which may be one of its name.
abbrev pub tells : Option Awaited → Option (List Column) → Types → Types
tells None parameters t = t
tells (Some a) parameters t = if nat_lt a.number t.parse then t else with_told a.object a.name parameters t

-- ---- answers

-- a portal was bound, or which one was bound last is no longer said
abbrev pub with_last : Option BoundPortal → Types → Types
with_last last t = record t { last = last }

-- the statement of the portal of this name, if it was bound last
abbrev pub statement_of : List ℕ → Option BoundPortal → Option (List ℕ)
statement_of name None = None
statement_of name (Some portal) = if bytes_eq portal.name name then Some portal.statement else None

abbrev pub passed_on : (statement : Option (List ℕ)) → Option Columns → List (List ℕ × Columns) → List (List ℕ × Columns)
passed_on None columns statements = statements
passed_on (Some name) columns statements = kept name columns statements

-- The columns of a portal are those of its statement, which later Binds may have without a Describe. Those of a Query are no statement's.
abbrev pub describes : Object → List ℕ → Option Columns → Types → Types
describes Statement name columns t = record t { statements = kept name columns t.statements }
describes Portal name columns t = record t { statements = passed_on (statement_of name t.last) columns t.statements; portals = kept name columns t.portals }
describes Simple name columns t = record t { portals = kept name columns t.portals }

-- the columns of a request's object are told; or it has none that are known
abbrev pub described : Option Awaited → Option Columns → Types → Types
described None columns t = t
described (Some a) columns t = describes a.object a.name columns t

-- a Parse or a Bind took effect
abbrev pub texts_after : ℕ → Reply → Option State → Option State
texts_after number reply texts = option_map (summary.ended number reply 0 0) texts

-- A Parse is done: no columns of its statement are known, and the parameters that it gave are told. The portal that was bound last may be of another statement of its name.
abbrev pub parsed : Option Awaited → Types → Types
parsed None t = with_last None t
parsed (Some a) t = tells (Some a) (Some a.parameters) (describes a.object a.name None (record t { last = None; texts = texts_after a.number replies.ParseComplete t.texts }))

-- a statement or a portal is closed
abbrev pub closed : Option Awaited → Types → Types
closed None t = with_last None t
closed (Some a) t = with_told a.object a.name None (describes a.object a.name None (with_last None t))

-- a portal is bound: it has its statement's columns, in the Bind's formats
abbrev pub bound : Option Awaited → Types → Types
bound None t = t
bound (Some a) t = record t { portals = kept a.name (option_map (in_formats a.formats) (found a.statement t.statements)) t.portals; last = Some (record { name = a.name; statement = a.statement }); texts = texts_after a.number replies.BindComplete t.texts }

-- the server is ready: outside of a transaction no portal is left
abbrev pub ended : (status : ℕ) → Types → Types
ended status t = record t { portals = if status == 73 then [] else t.portals; last = if status == 73 then None else t.last }  -- I

-- ---- rows

abbrev pub portal_rows : Object → List ℕ → Types → Option Columns
portal_rows Statement name t = None
portal_rows Portal name t = found name t.portals
portal_rows Simple name t = found name t.portals

-- the columns of the rows that answer a request: those of its portal
abbrev pub rows_of : Option Awaited → Types → Option Columns
rows_of None t = None
rows_of (Some a) t = portal_rows a.object a.name t
