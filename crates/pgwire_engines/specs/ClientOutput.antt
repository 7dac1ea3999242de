-- What the program writes for a script.
use Rattle.std.specs.Prelude.{◌≡◌, ◌≢◌, ◌⊎◌, ℕ, ◌+◌, Bool, List, [], ◌∷◌, ◌++◌, length, Some, codes, decimal}
use Rattle.std.specs.List.{slice_split}
use Rattle.std.specs.Str.{IsUtf8}
use Rattle.hex.specs.Hex.{encode_lower}
use Rattle.pgp_base.specs.Error.{number_of}
use Rattle.pgp_frontend.specs.ClientMessage.{ClientMessage, PasswordKind}
use Rattle.pgp_frontend.specs.Payload.{cause}
use Rattle.pgp_frontend.specs.ClientRun.{ClientRun, MayCome, is_opened}
use Rattle.pgwire_engines.specs.declared.client.LineFault.{LineFault}
use Rattle.pgwire_engines.specs.declared.client.LineFault.TheVariants.{NotUtf8, WrongWords, WrongPhase, Refused}
use Rattle.pgwire_engines.specs.Output.{line}
use Rattle.pgwire_engines.specs.Script.{is_newline, Says}

-- the lines ask for these messages, in order; an empty line asks for none
abbrev pub Ask : List (List ℕ) → List ClientMessage → Type 0
Ask [] messages = messages ≡ []
Ask ([] ∷ lines) messages = Ask lines messages
Ask ((b ∷ text) ∷ lines) messages = (m : ClientMessage) × (more : List ClientMessage) × (messages ≡ m ∷ more) × IsUtf8 (b ∷ text) × Says (b ∷ text) m × Ask lines more

-- the lines ask for these messages, and a server reads the bytes as these
pub record Sends (lines : List (List ℕ)) (messages : List ClientMessage) (bytes : List ℕ) : Type 0 where
  pub asked : Ask lines messages
  pub kinds : List PasswordKind
  pub run : ClientRun kinds messages bytes

-- Why a line is rejected, after messages that opened the session or didn't: the causes in the order in
-- which they are looked for.
abbrev pub IsFaulty : List ℕ → Bool → LineFault → Type 0
IsFaulty text opened NotUtf8 = ¬ IsUtf8 text
IsFaulty text opened WrongWords = IsUtf8 text × (text ≢ []) × ((m : ClientMessage) → ¬ Says text m)
IsFaulty text opened WrongPhase = IsUtf8 text × ((m : ClientMessage) × Says text m × (¬ MayCome m opened))
IsFaulty text opened (Refused e) = IsUtf8 text × ((m : ClientMessage) × Says text m × MayCome m opened × (cause m ≡ Some e))

abbrev pub reported : LineFault → List ℕ
reported NotUtf8 = codes "not UTF-8"
reported WrongWords = codes "wrong words"
reported WrongPhase = codes "wrong phase"
reported (Refused e) = codes "fault " ++ decimal (number_of e)

-- each line asks for a message that may come, and the bytes of all are written as hex digits
pub record IsSent (lines : List (List ℕ)) (output : List ℕ) (status : ℕ) : Type 0 where
  pub messages : List ClientMessage
  pub bytes : List ℕ
  pub sends : Sends lines messages bytes
  pub text : output ≡ line (encode_lower bytes)
  pub fine : status ≡ 0

-- a line is rejected after lines that aren't, and its number and the cause are reported
pub record IsRefused (lines : List (List ℕ)) (output : List ℕ) (status : ℕ) : Type 0 where
  pub before : List (List ℕ)
  pub here : List ℕ
  pub after : List (List ℕ)
  pub cut : lines ≡ before ++ here ∷ after
  pub messages : List ClientMessage
  pub bytes : List ℕ
  pub sends : Sends before messages bytes
  pub fault : LineFault
  pub why : IsFaulty here (is_opened messages) fault
  pub text : output ≡ line (codes "line " ++ decimal (length before + 1) ++ codes ": " ++ reported fault)
  pub failed : status ≡ 1

-- What is written for a script, which is cut into lines at each newline, and the status.
abbrev pub ClientOutput : List ℕ → List ℕ → ℕ → Type 0
ClientOutput script output status = IsSent (slice_split is_newline script) output status ⊎ IsRefused (slice_split is_newline script) output status
