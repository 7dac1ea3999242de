-- A connection that is lent five times: for a log-in, to a pipeline whose first part fails, for a function call, to a copy that fails before the client ended its data, and to a copy.
use Rattle.std.specs.Prelude.{ℕ, List, [], ◌∷◌}
use Rattle.pgp_client.specs.Telling.{Turn, Asks, Hears}
use Rattle.pgp_client.specs.declared.event.Event.TheVariants.{Part, Last, Aside}
use Rattle.pgp_client.specs.declared.kind.Kind.TheVariants.{AuthenticationOk, BackendKeyData, CommandComplete, CopyInResponse, ErrorResponse, FunctionCallResponse, NoticeResponse, NotificationResponse, ParameterStatus, ParseComplete, ReadyForQuery}
use Rattle.pgp_client.specs.declared.request.Request.{Request}
use Rattle.pgp_client.specs.declared.request.Request.TheVariants.{Bind, CopyDone, Execute, FunctionCall, Parse, Query, Startup, Sync}
use Rattle.pgp_client.specs.Pool.{Lending}

abbrev pub ask : Request → ℕ → Turn
ask r n = Asks (record { request = r; name = n })

abbrev pub login : List Turn
login = ask Startup 0 ∷ Hears AuthenticationOk (Part 0) ∷ Hears ParameterStatus Aside ∷ Hears BackendKeyData (Part 0) ∷ Hears ReadyForQuery (Last 0) ∷ []

abbrev pub pipeline : List Turn
pipeline =
    ask Parse 1 ∷ ask Bind 2 ∷ ask Execute 3 ∷ ask Sync 4 ∷ ask Parse 5 ∷ ask Sync 6 ∷ Hears ErrorResponse (Last 1) ∷ Hears NoticeResponse Aside ∷ Hears ReadyForQuery (Last 4)
    ∷ Hears ParseComplete (Last 5) ∷ Hears ReadyForQuery (Last 6) ∷ []

abbrev pub call : List Turn
call = ask FunctionCall 7 ∷ Hears FunctionCallResponse (Part 7) ∷ Hears NotificationResponse Aside ∷ Hears ReadyForQuery (Last 7) ∷ []

abbrev pub failing_copy : List Turn
failing_copy = ask Query 8 ∷ Hears CopyInResponse (Part 8) ∷ Hears ErrorResponse (Part 8) ∷ ask CopyDone 9 ∷ Hears ReadyForQuery (Last 8) ∷ []

abbrev pub copy : List Turn
copy = ask Query 10 ∷ Hears CopyInResponse (Part 10) ∷ ask CopyDone 11 ∷ Hears CommandComplete (Part 10) ∷ Hears ReadyForQuery (Last 10) ∷ []

abbrev pub lendings : List Lending
lendings =
    record { client = 0; turns = login } ∷ record { client = 1; turns = pipeline } ∷ record { client = 2; turns = call } ∷ record { client = 3; turns = failing_copy }
    ∷ record { client = 4; turns = copy } ∷ []
