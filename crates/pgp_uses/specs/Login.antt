-- What the steps of a log-in send, and the texts of commands that they make.
use Rattle.std.specs.Prelude.{◌≡◌, ℕ, true, false, List, ◌++◌, Some, codes}
use Rattle.pgp_base.specs.Held.{Held, ◌⊕◌}
use Rattle.pgp_auth.specs.Lexer.{Identifier, Literal}
use Rattle.pgp_auth.specs.ScramClient.{Client, Answers, UpdateRefused, message_of}
use Rattle.pgp_auth.specs.ScramErrorView.{refusal}
use Rattle.pgp_auth.specs.ScramRefusal.{OutOfMemory}
use Rattle.pgp_frontend.specs.ClientMessage.{ClientMessage, SaslResponse}
use Rattle.pgp_frontend.specs.Payload.{bytes_of}
use Rattle.pgp_stream.specs.ClientStream.{RefusesMessage}
use Rattle.pgp_uses.specs.declared.login.LoginError.{LoginError}
use Rattle.pgp_uses.specs.declared.login.LoginError.TheVariants.{Message, Scram, Over}

-- what the exchange has to say was sent, in this message
pub record Sends {Kept : Type 0} (message : List ℕ → ClientMessage) (client : Client) (old new : Held Kept) : Type 0 where
  pub text : List ℕ
  pub said : message_of client.state ≡ Some text
  pub sent : new ≡ old ⊕ bytes_of (message text)

-- Why a log-in didn't begin after what stood `here`: for lack of memory, which `memory` says, or the first message was refused.
abbrev pub BeginRefused : {A K : Type 0} → ClientMessage → Type 0 → (Held K → ℕ → Type 0) → Held K → LoginError A → Type 0
BeginRefused message memory lacks here (Message e) = RefusesMessage message lacks here e
BeginRefused message memory lacks here (Scram e) = (refusal e ≡ OutOfMemory) × memory
BeginRefused message memory lacks here Over = ⊥

-- why the server's first text wasn't answered: the exchange rejected it, or the final text wasn't
-- sent
abbrev pub RespondRefused : {A K : Type 0} → Client → List ℕ → Client → Type 0 → (Held K → ℕ → Type 0) → Held K → LoginError A → Type 0
RespondRefused old challenge new memory lacks here (Message e) = Answers old challenge new × ((text : List ℕ) × (message_of new.state ≡ Some text) × RefusesMessage (SaslResponse text) lacks here e)
RespondRefused old challenge new memory lacks here (Scram e) = UpdateRefused memory old challenge (refusal e) new
RespondRefused old challenge new memory lacks here Over = ⊥

-- the command names this user and this verifier, and a server reads both as they are, whatever
-- standard_conforming_strings says
pub record IsSetPassword (user verifier text : List ℕ) : Type 0 where
  pub name : List ℕ
  pub shown : List ℕ
  pub parts : text ≡ codes "ALTER USER " ++ name ++ codes " PASSWORD " ++ shown
  pub named : Identifier name user
  pub standard : Literal true shown verifier
  pub not_standard : Literal false shown verifier

-- the column's name, ` = ` and the text, each as a server reads it
pub record IsComparison (column value text : List ℕ) : Type 0 where
  pub name : List ℕ
  pub shown : List ℕ
  pub parts : text ≡ name ++ codes " = " ++ shown
  pub named : Identifier name column
  pub standard : Literal true shown value
  pub not_standard : Literal false shown value
