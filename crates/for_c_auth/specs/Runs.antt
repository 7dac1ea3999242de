-- Whole sessions of a client's connection: what it was asked and took, a call at a time.
use Rattle.std.specs.Prelude.{◌≡◌, ◌≢◌, ℕ, List, [], ◌∷◌, ◌++◌, true, None, option_to_list}
use Rattle.pgp_client.specs.Kinds.{kind_of}
use Rattle.pgp_client.specs.Telling.{Asks, Hears, Turn, start}
use Rattle.pgp_client.specs.declared.event.Event.{Event}
use Rattle.pgp_client.specs.declared.event.Event.TheVariants.{Ended}
use Rattle.pgp_client.specs.declared.request.Request.{Request}
use Rattle.pgp_frontend.specs.ClientMessage.{ClientMessage}
use Rattle.pgp_message.specs.BackendMessage.{Message}
use Rattle.for_c_auth.specs.Answering.{awaits_request}
use Rattle.for_c_auth.specs.Connection.{Link, Took, asked_of, may_ask}
use Rattle.pgp_login.specs.declared.face.PgpWays.{PgpWays}

-- A connection comes to this from its beginning, by these ways: what it gave for the log-in, the messages that were taken, and what was asked and heard in turn. What a call rejects
-- without ending the connection leaves all as it was.
pub data Runs (w : PgpWays) : List ClientMessage → List Message → List Turn → Link → Type 0 where
  Begins : (c : Link) → c.login.phase ≡ awaits_request → c.talk ≡ start → c.version ≡ None → Runs w [] [] [] c
  Asked : {gave : List ClientMessage} {heard : List Message} {turns : List Turn} {old : Link} (r : Request) (name : ℕ) → Runs w gave heard turns old → may_ask old r ≡ true
      → Runs w gave heard (turns ++ Asks (record { request = r; name = name }) ∷ []) (asked_of r name old)
  Heard : {gave : List ClientMessage} {heard : List Message} {turns : List Turn} {old new : Link} (given : ℕ) (m : Message) (e : Event) (reply : List ℕ) → Runs w gave heard turns old → (t : Took w given m old new e reply) → e ≢ Ended
      → Runs w (gave ++ option_to_list t.logged.reply) (heard ++ m ∷ []) (turns ++ Hears (kind_of m) e ∷ []) new
