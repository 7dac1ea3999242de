-- A client's connection that awaits the rows of a request.
use Rattle.std.specs.Prelude.{◌≡◌, ◌⊎◌, ℕ, Bool, true, false, List, [], ◌∷◌, None, Ok, codes, ◌==◌}
use Rattle.pgp_auth.specs.ScramClient.{Client}
use Rattle.pgp_client.specs.declared.event.Event.{Event}
use Rattle.pgp_client.specs.declared.event.Event.TheVariants.{Part}
use Rattle.pgp_frontend.specs.ClientMessage.{Startup}
use Rattle.pgp_message.specs.BackendMessage.{Message, DataRow, ErrorResponse}
use Rattle.pgp_message.specs.Parts.{CountedBytes}
use Rattle.pgp_message.specs.Stream.{IsPartial, TakesFrame}
use Rattle.pgp_session.specs.Connection.{Shown, Took, TookEnd, with_incoming}
use Rattle.pgp_login.specs.Exchange.{begun_of}
use Rattle.pgp_login.specs.Machine.{Ways}
use Rattle.pgp_session.specs.Session.{History, and_wrote, nothing}
use Rattle.pgp_uses.specs.declared.client.Received.{Received}
use Rattle.pgp_uses.specs.declared.client.Received.TheVariants as code

-- SCRAM-SHA-256 by this exchange, and no other way
abbrev pub scram_alone : Client → Ways
scram_alone x = record { scram = begun_of x.state; md5 = None; cleartext = None; none = false; least = 0 }

-- the startup packet of this user was written
abbrev pub opened : List ℕ → History
opened user = and_wrote (Startup 0 ((codes "user", user) ∷ [])) 0 nothing

-- the event is a part of the answer to this request
abbrev pub is_part : ℕ → Event → Bool
is_part name (Part n) = n == name
is_part name e = false

abbrev pub row_if : {A : Type 0} → Bool → Event → CountedBytes → Received A
row_if true e row = code.Row row
row_if false e row = code.Other e

abbrev pub received_as : {A : Type 0} → ℕ → Event → Message → Received A
received_as name e (DataRow row) = row_if (is_part name e) e row
received_as name e (ErrorResponse fields) = code.Failed e fields
received_as name e m = code.Other e

-- What the next message is: none is complete; or one was taken, and is a row of the request, an error, or another.
abbrev pub IsSo : {A : Type 0} → ℕ → Received A → Shown → Shown → Type 0
IsSo name code.Nothing old new = IsPartial old.incoming × (new ≡ old)
IsSo {A} name received old new = (m : Message) × (rest : List ℕ) × (e : Event) × TakesFrame old.incoming (Ok m) rest
    × (Took m (with_incoming rest old) new e ⊎ TookEnd m (with_incoming rest old) new e) × (received ≡ received_as {A = A} name e m)
