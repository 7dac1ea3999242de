-- Private: what sending the lines of a script comes to, one by one. `ClientOutput` says what a whole script comes to.
use Rattle.std.specs.Prelude.{◌≡◌, ◌≢◌, ◌⊎◌, ℕ, ◌+◌, Bool, true, false, List, [], ◌∷◌, ◌++◌, length, Option, Some, None}
use Rattle.std.specs.Borrow.{Bor}
use Rattle.std.specs.List.{slice_split}
use Rattle.std.specs.Option.{option_map_or}
use Rattle.std.specs.Str.{IsUtf8}
use Rattle.pgp_base.specs.Held.{Held}
use Rattle.pgp_frontend.specs.ClientMessage.{ClientMessage, Startup, SslRequest}
use Rattle.pgp_frontend.specs.ClientRun.{MayCome, is_opened}
use Rattle.pgp_stream.specs.ClientStream.{Sent, IsAdded}
use Rattle.pgwire_engines.specs.declared.client.LineFault.{LineFault}
use Rattle.pgwire_engines.specs.ClientOutput.{IsFaulty, Sends}
use Rattle.pgwire_engines.specs.Script.{Says, is_newline}

-- the lines that are left to send
abbrev pub lines_left : Option (Bor (List ℕ)) → List (List ℕ)
lines_left rest = option_map_or (λ bytes. slice_split is_newline bytes.now) rest []

-- how many bytes they have, with the newline before them
abbrev pub size_left : Option (Bor (List ℕ)) → ℕ
size_left rest = option_map_or (λ bytes. length bytes.now + 1) rest 0

-- a script's line that has to come before the session is open
abbrev pub is_opening : ClientMessage → Bool
is_opening SslRequest = true
is_opening (Startup minor parameters) = true
is_opening _ = false

module _ {B Kept : Type 0} (held : B → Held Kept) where
  -- the line's message was added
  pub record SendsOne (text : List ℕ) (old new : Sent B) : Type 0 where
    pub some : text ≢ []
    pub utf8 : IsUtf8 text
    pub message : ClientMessage
    pub says : Says text message
    pub may : MayCome message old.opened
    pub added : IsAdded held message old new

  -- a line that is empty sends nothing; another one adds its message, or is faulty
  abbrev pub SendsLine : List ℕ → Sent B → Sent B → Option LineFault → Type 0
  SendsLine text old new None = ((text ≡ []) × (new ≡ old)) ⊎ SendsOne text old new
  SendsLine text old new (Some fault) = IsFaulty text old.opened fault

-- the bytes are the messages of these lines, and open the session or don't
pub record HasSent (lines : List (List ℕ)) (bytes : List ℕ) (opened : Bool) : Type 0 where
  pub messages : List ClientMessage
  pub sends : Sends lines messages bytes
  pub opens : opened ≡ is_opened messages

-- the messages of the lines before the one of this number may come, and that one is faulty
pub record StopsAt (lines : List (List ℕ)) (number : ℕ) (fault : LineFault) : Type 0 where
  pub before : List (List ℕ)
  pub here : List ℕ
  pub after : List (List ℕ)
  pub cut : lines ≡ before ++ here ∷ after
  pub count : number ≡ length before + 1
  pub bytes : List ℕ
  pub opened : Bool
  pub sent : HasSent before bytes opened
  pub why : IsFaulty here opened fault

-- all lines were sent, or some up to a faulty one
abbrev pub SendsLines : List (List ℕ) → List ℕ → Bool → Option (ℕ × LineFault) → Type 0
SendsLines lines bytes opened None = HasSent lines bytes opened
SendsLines lines bytes opened (Some (number, fault)) = StopsAt lines number fault
