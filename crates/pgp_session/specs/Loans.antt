-- A pooler's session, whose connection is lent where the session is idle.
use Rattle.std.specs.Prelude.{◌≡◌, ◌≢◌, ℕ, List, [], ◌∷◌, ◌++◌, Ok}
use Rattle.pgp_client.specs.Kinds.{kind_of, request_of}
use Rattle.pgp_client.specs.Telling.{Turn, Hears}
use Rattle.pgp_client.specs.declared.event.Event.{Event}
use Rattle.pgp_client.specs.declared.event.Event.TheVariants.{Ended}
use Rattle.pgp_client.specs.declared.kind.Kind.TheVariants.{FunctionCallResponse}
use Rattle.pgp_frontend.specs.ClientMessage.{ClientMessage}
use Rattle.pgp_message.specs.BackendMessage.{Message}
use Rattle.pgp_session.specs.Pooler.{IsQuiet, Receives, ReceivesResult, Shown, and_sent}
use Rattle.pgp_session.specs.Session.{turns_of}
use Rattle.pgp_client.specs.Pool.{Lending}

-- a call of `sent`, of `received` with what it returned, and of `received_function_result`
pub data Call : Type 0 where
  Sent : ClientMessage → Call
  Received : Message → Event → Call
  ReceivedResult : Event → Call

-- From one session to another by these calls. None failed, and no message ended the session.
abbrev pub Calls : Shown → List Call → Shown → Type 0
Calls s [] now = s ≡ now
Calls s (Sent m ∷ calls) now = Calls (and_sent m s) calls now
Calls s (Received m e ∷ calls) now = (next : Shown) × Receives m s next (Ok e) × (e ≢ Ended) × Calls next calls now
Calls s (ReceivedResult e ∷ calls) now = (next : Shown) × ReceivesResult s next (Ok e) × (e ≢ Ended) × Calls next calls now

-- to whom the connection was lent, and the calls meanwhile
pub record Loan : Type 0 where
  pub client : ℕ
  pub calls : List Call

-- Each loan begins where `is_idle` is true, with no byte of a partial message on either side.
abbrev pub Loans : Shown → List Loan → Shown → Type 0
Loans s [] now = s ≡ now
Loans s (l ∷ ls) now = IsQuiet s [] [] × (next : Shown) × Calls s l.calls next × Loans next ls now

-- what was asked and heard by these calls
abbrev pub turns_of_calls : List Call → List Turn
turns_of_calls [] = []
turns_of_calls (Sent m ∷ calls) = turns_of (request_of m) 0 ++ turns_of_calls calls
turns_of_calls (Received m e ∷ calls) = Hears (kind_of m) e ∷ turns_of_calls calls
turns_of_calls (ReceivedResult e ∷ calls) = Hears FunctionCallResponse e ∷ turns_of_calls calls

abbrev pub lending_of : ℕ → List Call → Lending
lending_of client calls = record { client = client; turns = turns_of_calls calls }

abbrev pub lendings_of : List Loan → List Lending
lendings_of [] = []
lendings_of (l ∷ ls) = lending_of l.client l.calls ∷ lendings_of ls

-- ---- all calls of a connection

abbrev pub calls_in : List Loan → List Call
calls_in [] = []
calls_in (l ∷ ls) = l.calls ++ calls_in ls

abbrev pub sent_in : List Call → List ClientMessage
sent_in [] = []
sent_in (Sent m ∷ calls) = m ∷ sent_in calls
sent_in (Received m e ∷ calls) = sent_in calls
sent_in (ReceivedResult e ∷ calls) = sent_in calls

abbrev pub received_in : List Call → List Message
received_in [] = []
received_in (Sent m ∷ calls) = received_in calls
received_in (Received m e ∷ calls) = m ∷ received_in calls
received_in (ReceivedResult e ∷ calls) = received_in calls
