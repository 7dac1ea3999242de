-- A server's run where the client asks and hears in turn: what it hears of a copy that failed can't be owed to a Sync that was asked after that.
-- PostgreSQL manual, "Message Flow": "Pipelining", "COPY Operations".
use Rattle.std.specs.Prelude.{◌≡◌, ◌⊎◌, ℕ, List, [], ◌∷◌, ◌++◌, length}
use Rattle.pgp_client.specs.Flow.{Ready, Serves, StandsAnywhere}
use Rattle.pgp_client.specs.Turns.{Turn, Asks, Hears, asked_in, names}
use Rattle.pgp_client.specs.declared.request.Asked.{Asked}
use Rattle.pgp_client.specs.declared.event.Event.{Event}
use Rattle.pgp_client.specs.declared.event.Event.TheVariants.{Aside, Last, Part}
use Rattle.pgp_client.specs.declared.kind.Kind.{Kind}
use Rattle.pgp_client.specs.declared.kind.Kind.TheVariants.{CopyInResponse, ErrorResponse, ReadyForQuery}
use Rattle.pgp_client.specs.declared.request.Request.TheVariants.{Execute, Sync}

-- The messages and what they are, as they are heard in these turns, with messages among them that belong to no request. Of each message with so many
-- behind it `later` says how many requests are asked after it was heard.
pub data AmongTurns (later : ℕ → ℕ) : List Kind → List Event → List Turn → List Event → Type 0 where
  NoTurnLeft : AmongTurns later [] [] [] []
  OneAsked : {ks : List Kind} {es reported : List Event} {turns : List Turn} (a : Asked)
      → AmongTurns later ks es turns reported → AmongTurns later ks es (Asks a ∷ turns) reported
  OneAnswer : {ks : List Kind} {es reported : List Event} {turns : List Turn} (k : Kind) (e told : Event)
      → later (length ks) ≡ length (asked_in turns) → AmongTurns later ks es turns reported → AmongTurns later (k ∷ ks) (e ∷ es) (Hears k told ∷ turns) (e ∷ reported)
  OneElse : {ks : List Kind} {es reported : List Event} {turns : List Turn} (k : Kind) (told : Event)
      → StandsAnywhere k → AmongTurns later ks es turns reported → AmongTurns later ks es (Hears k told ∷ turns) (Aside ∷ reported)

-- To what was asked in these turns a server sends what was heard in them, and this is to which request each message belongs. What the turns report
-- of a message doesn't matter here.
pub record BelongInTurns (turns : List Turn) (truth : List Event) : Type 0 where
  pub later : ℕ → ℕ
  pub sent : List Kind
  pub belong : List Event
  pub serves : Serves later Ready (asked_in turns) sent belong
  pub among : AmongTurns later sent belong turns truth

abbrev pub IsAmong : ℕ → List ℕ → Type 0
IsAmong n [] = ⊥
IsAmong n (m ∷ ms) = (n ≡ m) ⊎ IsAmong n ms

-- Each message that is reported of a request is so under a name that was asked before the message was heard, or is that of one of these.
abbrev pub AskedBefore : List Asked → List Turn → Type 0
AskedBefore rs [] = Unit {0}
AskedBefore rs (Asks a ∷ turns) = AskedBefore (rs ++ a ∷ []) turns
AskedBefore rs (Hears k (Part n) ∷ turns) = IsAmong n (names rs) × AskedBefore rs turns
AskedBefore rs (Hears k (Last n) ∷ turns) = IsAmong n (names rs) × AskedBefore rs turns
AskedBefore rs (Hears k e ∷ turns) = AskedBefore rs turns

-- A copy to the server, before whose data a Sync was asked, fails, and is followed by a second Sync, of which two the server answered one.
abbrev pub failed_copy : ℕ → ℕ → ℕ → List Turn
failed_copy execute first second =
    Asks (record { request = Execute; name = execute }) ∷ Asks (record { request = Sync; name = first }) ∷ Hears CopyInResponse (Part execute) ∷ Hears ErrorResponse (Last execute)
    ∷ Asks (record { request = Sync; name = second }) ∷ Hears ReadyForQuery (Last first) ∷ []
