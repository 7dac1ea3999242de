-- Private: what the code keeps of the types of statements and portals.
use Rattle.std.specs.Prelude.{List, map, Option, None, Some}
use Rattle.pgtrace_session.specs.declared.awaited.Awaited as code_awaited
use Rattle.pgtrace_session.specs.declared.types.BoundPortal as code_portal
use Rattle.pgtrace_session.specs.declared.types.Types as code_types
use Rattle.pgtrace_session.specs.Types.{Awaited, BoundPortal, Types}

abbrev pub awaited_of : {A : Type 0} → code_awaited.Awaited A → Awaited
awaited_of a = record { number = a.number; object = a.object; name = a.name.items; statement = a.statement.items; formats = a.formats.items; parameters = a.parameters.items }

abbrev pub queue_of : {A : Type 0} → List (code_awaited.Awaited A) → List Awaited
queue_of queue = map awaited_of queue

abbrev pub last_of : {A : Type 0} → Option (code_portal.BoundPortal A) → Option BoundPortal
last_of None = None
last_of (Some portal) = Some (record { name = portal.name.items; statement = portal.statement.items })

abbrev pub types_of : {A : Type 0} → code_types.Types A → Types
types_of t = record { awaited = queue_of t.awaited.items; statements = t.statements; portals = t.portals; last = last_of t.last; sent = t.sent; told = t.told; binds = t.binds.items; parse = t.parse; texts = t.texts }

abbrev pub types_in : {A : Type 0} → Option (code_types.Types A) → Option Types
types_in None = None
types_in (Some types) = Some (types_of types)
