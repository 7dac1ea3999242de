-- What requests ran, by the messages of both sides.
use Rattle.std.specs.Prelude.{ℕ, List, [], Option, Some, None, Ok}
use Rattle.pgtrace_session.specs.Common.{ClientMessage, Bind, Execute, Parse, Query, Kind, State, asked, ended, failed, row, Role, Told, Number, Answer}
use Rattle.pgp_client.specs.declared.kind.Kind.TheVariants as kinds
use Rattle.pgtrace_summary.specs.declared.work.Work.TheVariants as works
use Rattle.pgtrace_summary.specs.declared.work.Reply.TheVariants.{ParseComplete, BindComplete, ExecuteEnd, ReadyForQuery}
use Rattle.pgtrace_session.specs.declared.role.Role.TheVariants as role
use Rattle.pgtrace_session.specs.Requests.{Numbers, role_by, tell}
use Rattle.pgtrace_session.specs.Typed.{Said, Sent}
use Rattle.pgtrace_session.specs.declared.placement.Told.TheVariants.{Uncounted}

-- ---- a request of this number

-- that a statement is run, or which one another request runs; of other messages nothing is noted
abbrev pub runs : (number : ℕ) → ClientMessage → State → State
runs number (Query query) s = asked (record { number = number; work = works.Query; first = query; second = [] }) s
runs number (Parse name query types) s = asked (record { number = number; work = works.Parse; first = name; second = query }) s
runs number (Bind portal statement formats values result_formats) s = asked (record { number = number; work = works.Bind; first = portal; second = statement }) s
runs number (Execute portal max_rows) s = asked (record { number = number; work = works.Execute; first = portal; second = [] }) s
runs number m s = s

-- ---- a message of this kind

-- that belongs to the request of this number, which was sent then, and comes now
abbrev pub answers : Kind → (number sent now : ℕ) → State → State
answers kinds.DataRow number sent now s = row number s
answers kinds.ErrorResponse number sent now s = ended number ExecuteEnd sent now (failed number s)
answers kinds.ParseComplete number sent now s = ended number ParseComplete sent now s
answers kinds.BindComplete number sent now s = ended number BindComplete sent now s
answers kinds.CommandComplete number sent now s = ended number ExecuteEnd sent now s
answers kinds.EmptyQueryResponse number sent now s = ended number ExecuteEnd sent now s
answers kinds.PortalSuspended number sent now s = ended number ExecuteEnd sent now s
answers kinds.ReadyForQuery number sent now s = ended number ReadyForQuery sent now s
answers kind number sent now s = s

-- ---- a frame

-- the message that a client's is read as
abbrev pub sent_in : Said → Option ClientMessage
sent_in (Sent (Ok m)) = Some m
sent_in said = None

-- one that is this to the requests, and whose mark says this
abbrev pub takes_note : Told → Role → Option ClientMessage → State → State
takes_note (Number number) r (Some m) s = runs number m s
takes_note (Answer number sent now) (role.Message kind) m s = answers kind number sent now s
takes_note told r m s = s

abbrev pub summed_so : Told → Role → Option ClientMessage → Option State → Option State
summed_so told r m None = None
summed_so told r m (Some s) = Some (takes_note told r m s)

abbrev pub with_summary : Option State → Numbers → Numbers
with_summary summary n = record { dialogue = n.dialogue; sent = n.sent; now = n.now; summary = summary }

abbrev pub summed : Told → Role → Option ClientMessage → Numbers → Numbers
summed told r m n = with_summary (summed_so told r m n.summary) n

-- What its mark says of requests, and what is known of them, and of what they ran, after it.
abbrev pub places : Role → Option ClientMessage → Option Numbers → Told × Option Numbers
places r m None = (Uncounted, None)
places r m (Some n) = ((tell r n).0, Some (summed (tell r n).0 r m (tell r n).1))

-- and where it is read so
abbrev pub placed_by : (frame : List ℕ) → Said → Option Numbers → Told × Option Numbers
placed_by frame said = places (role_by frame said) (sent_in said)
