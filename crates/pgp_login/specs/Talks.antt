-- Whole sessions: what was asked and heard in turn, and how far the log-in is.
use Rattle.std.specs.Prelude.{◌≡◌, ◌≢◌, Bool, List, [], ◌∷◌, ◌++◌, Option, Ok, option_to_list}
use Rattle.pgp_client.specs.Kinds.{kind_of}
use Rattle.pgp_client.specs.Taking.{asked, taken}
use Rattle.pgp_client.specs.Talk.{Talk}
use Rattle.pgp_client.specs.Telling.{Turn, Asks, Hears as HearsTurn, start}
use Rattle.pgp_client.specs.declared.event.Event.{Event}
use Rattle.pgp_client.specs.declared.event.Event.TheVariants.{Ended}
use Rattle.pgp_client.specs.declared.request.Asked.{Asked}
use Rattle.pgp_frontend.specs.ClientMessage.{ClientMessage}
use Rattle.pgp_message.specs.BackendMessage.{Message}
use Rattle.pgp_login.specs.Machine.{AwaitsOffer, LogsOn, State, Ways, asking}

-- A client that admits these ways asked and heard in these turns: what it gave for the log-in, the messages that were taken, and where it is in the dialogue and in the log-in.
pub data Talks (w : Ways) : List ClientMessage → List Message → List Turn → Talk → State → Type 0 where
  Opens : Talks w [] [] [] start AwaitsOffer
  AsksOne : {gave : List ClientMessage} {observed : List Message} {turns : List Turn} {t : Talk} {s : State} (a : Asked) → Talks w gave observed turns t s → Talks w gave observed (turns ++ Asks a ∷ []) (asked t a) s
  HearsOne : {gave : List ClientMessage} {reply : Option ClientMessage} {observed : List Message} {turns : List Turn} {t next : Talk} {s after : State} (encrypted : Bool) (m : Message) (e : Event)
      → taken t (kind_of m) ≡ Ok (e, next) → e ≢ Ended → LogsOn w encrypted (asking m) reply s after → Talks w gave observed turns t s
      → Talks w (gave ++ option_to_list reply) (observed ++ m ∷ []) (turns ++ HearsTurn (kind_of m) e ∷ []) next after
