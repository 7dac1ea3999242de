-- What an exchange of SCRAM-SHA-256 leaves, whose texts pass through messages, and where one stops.
-- PostgreSQL manual, "SASL Authentication"; RFC 5802; RFC 7677.
use Rattle.std.specs.Prelude.{◌≡◌, ◌⊎◌, ℕ, ◌+◌, max, List, Some, Ok, Err}
use Rattle.pgp_base.specs.Held.{Held, ◌⊕◌}
use Rattle.pgp_base.specs.declared.error.Error.{Error}
use Rattle.pgp_auth.specs.Verifier.{verifier}
use Rattle.pgp_auth.specs.ScramServer.{Accepts, Signs}
use Rattle.pgp_auth.specs.ScramRefusal.{Refusal, Meets, Verifies}
use Rattle.pgp_auth.specs.ScramClient.{Client, Begun, Answered, Answers, UpdateRefused, FinishRefused, AwaitsFirst, Over, first_text, signature_of}
use Rattle.pgp_auth.specs.ScramErrorView.{refusal}
use Rattle.pgp_frontend.specs.ClientMessage.{SaslInitialResponse, SaslResponse}
use Rattle.pgp_frontend.specs.Payload.{bytes_of, WritesMessage}
use Rattle.pgp_frontend.specs.Reading.{IsSpelled}
use Rattle.pgp_message.specs.BackendMessage.{Message, Authentication, AuthenticationSaslContinue, AuthenticationSaslFinal}
use Rattle.pgp_message.specs.Stream.{IsPartial, TakesFrame, Step}
use Rattle.postgres_protocol.specs.declared.laws.sasl.SaslRefusal.{SaslRefusal}
use Rattle.postgres_protocol.specs.declared.laws.sasl.SaslRefusal.TheVariants as refusals

-- The exchange came to its end. Each side of a buffer is what it held before and after.
pub record Exchanged {Kept : Type 0} (mechanism : List ℕ) (old new : Client) (first_old first_new final_old final_new : List ℕ) (out_old out_new : Held Kept) : Type 0 where
  -- the client's own texts are in two messages after what stood there, which a server reads back
  pub begun : Begun
  pub due : old.state ≡ AwaitsFirst begun
  pub answered : Answered
  pub appended : out_new ≡ out_old ⊕ bytes_of (SaslInitialResponse mechanism (Some (first_text begun))) ⊕ bytes_of (SaslResponse answered.final)
  pub first_spelled : IsSpelled (SaslInitialResponse mechanism (Some (first_text begun)))
  pub final_spelled : IsSpelled (SaslResponse answered.final)
  -- the server's texts are those of the messages that were taken
  pub first : List ℕ
  pub final : List ℕ
  pub first_taken : TakesFrame first_old (Ok (Authentication (AuthenticationSaslContinue first))) first_new
  pub final_taken : TakesFrame final_old (Ok (Authentication (AuthenticationSaslFinal final))) final_new
  -- both ways: the server that holds the verifier accepts the proof, and showed its signature
  pub nonce : List ℕ
  pub salt : List ℕ
  pub count : ℕ
  pub meets : Meets begun.nonce first nonce salt count
  pub accepts : Accepts (verifier begun.password salt count) begun.binding (first_text begun) first answered.final
  pub signs : Signs (verifier begun.password salt count) begun.binding (first_text begun) first (signature_of answered)
  pub verifies : Verifies (signature_of answered) final
  pub over : new.state ≡ Over
  pub hmacs : new.hmacs ≡ (old.hmacs + (max count 1 + 2)) + 2

-- another message than the one with the server's first text
abbrev pub IsNoContinue : Message → Type 0
IsNoContinue (Authentication (AuthenticationSaslContinue text)) = ⊥
IsNoContinue _ = Unit {0}

-- another message than the one with the server's final text
abbrev pub IsNoFinal : Message → Type 0
IsNoFinal (Authentication (AuthenticationSaslFinal text)) = ⊥
IsNoFinal _ = Unit {0}

-- the front of old is the frame of another message, and new is what follows it
pub record TakesOther (IsOther : Message → Type 0) (old new : List ℕ) : Type 0 where
  pub message : Message
  pub taken : TakesFrame old (Ok message) new
  pub other : IsOther message

-- Why a buffer gave no text: no complete frame stands in front, or that of another message, or reading refused it. `memory` says
-- that memory for a message was refused.
abbrev pub GivesNone : {A : Type 0} → Type 0 → (Message → Type 0) → List ℕ → List ℕ → SaslRefusal A → Type 0
GivesNone memory IsOther old new refusals.Unexpected = (IsPartial old × (new ≡ old)) ⊎ TakesOther IsOther old new
GivesNone memory IsOther old new (refusals.Message e) = Step memory old (Err e) new
GivesNone memory IsOther old new (refusals.Scram e) = ⊥

-- How far an exchange came, stage by stage. `out` is what the buffer held then, and `client` what the client was.
module _ {Kept : Type 0} (mechanism : List ℕ) (old : Client) (out_old : Held Kept) where
  -- the client's first text was written after what stood in the buffer
  pub record SentFirst (out : Held Kept) : Type 0 where
    pub begun : Begun
    pub due : old.state ≡ AwaitsFirst begun
    pub sent : out ≡ out_old ⊕ bytes_of (SaslInitialResponse mechanism (Some (first_text begun)))

  module _ (first_old first_new : List ℕ) where
    -- then the server's first text was taken and answered
    pub record GotFirst (out : Held Kept) (client : Client) : Type 0 where
      pub behind : SentFirst out
      pub first : List ℕ
      pub taken : TakesFrame first_old (Ok (Authentication (AuthenticationSaslContinue first))) first_new
      pub answers : Answers old first client

    -- then the client's final text, the answer, was written
    pub record SentFinal (out : Held Kept) (client : Client) : Type 0 where
      pub between : Held Kept
      pub behind : GotFirst between client
      pub sent : out ≡ between ⊕ bytes_of (SaslResponse behind.answers.answered.final)

-- Why it went no further, stage by stage. Each side is what it was before the call and is after it. `memory` is what an error of memory for
-- the exchange and the server's messages says, `lacks` that of a growth of the buffer.
module _ {Kept : Type 0} (memory : Type 0) (lacks : Held Kept → ℕ → Type 0) (mechanism : List ℕ) (old new : Client) (first_old first_new final_old final_new : List ℕ) (out_old out_new : Held Kept) where
  -- at once: the client's first text wasn't written, and nothing was taken
  pub record FirstUnwritten (e : Error) : Type 0 where
    pub begun : Begun
    pub due : old.state ≡ AwaitsFirst begun
    pub refused : WritesMessage (SaslInitialResponse mechanism (Some (first_text begun))) lacks out_old out_new (Err e)
    pub client : new ≡ old
    pub first : first_new ≡ first_old
    pub final : final_new ≡ final_old

  -- after the client's first text: that of the server didn't stand in its buffer
  pub record FirstMissing {A : Type 0} (r : SaslRefusal A) : Type 0 where
    pub behind : SentFirst mechanism old out_old out_new
    pub missing : GivesNone memory IsNoContinue first_old first_new r
    pub client : new ≡ old
    pub final : final_new ≡ final_old

  -- or it was rejected
  pub record FirstRefused (e : Refusal) : Type 0 where
    pub behind : SentFirst mechanism old out_old out_new
    pub first : List ℕ
    pub taken : TakesFrame first_old (Ok (Authentication (AuthenticationSaslContinue first))) first_new
    pub refused : UpdateRefused memory old first e new
    pub final : final_new ≡ final_old

  -- after the server's first text: the answer wasn't written
  pub record FinalUnwritten (e : Error) : Type 0 where
    pub between : Held Kept
    pub behind : GotFirst mechanism old out_old first_old first_new between new
    pub refused : WritesMessage (SaslResponse behind.answers.answered.final) lacks between out_new (Err e)
    pub final : final_new ≡ final_old

  -- after the client's final text: that of the server didn't stand in its buffer
  pub record FinalMissing {A : Type 0} (r : SaslRefusal A) : Type 0 where
    pub behind : SentFinal mechanism old out_old first_old first_new out_new new
    pub missing : GivesNone memory IsNoFinal final_old final_new r

  -- or it was rejected
  pub record FinalRefused (e : Refusal) : Type 0 where
    pub client : Client
    pub behind : SentFinal mechanism old out_old first_old first_new out_new client
    pub final : List ℕ
    pub taken : TakesFrame final_old (Ok (Authentication (AuthenticationSaslFinal final))) final_new
    pub refused : FinishRefused memory client final e new

  -- Why it stopped, by the error.
  abbrev pub Stopped : {A : Type 0} → SaslRefusal A → Type 0
  Stopped {A} refusals.Unexpected = FirstMissing {A = A} refusals.Unexpected ⊎ FinalMissing {A = A} refusals.Unexpected
  Stopped {A} (refusals.Message e) = FirstUnwritten e ⊎ (FirstMissing {A = A} (refusals.Message e) ⊎ (FinalUnwritten e ⊎ FinalMissing {A = A} (refusals.Message e)))
  Stopped {A} (refusals.Scram e) = FirstRefused (refusal e) ⊎ FinalRefused (refusal e)
