-- Messages that the server appends to an answer by itself.
-- PostgreSQL manual, "Message Formats": NotificationResponse, ParameterStatus, FunctionCallResponse.
use Rattle.std.specs.Prelude.{◌≡◌, ◌≢◌, ◌⊎◌, ℕ, ℤ, pos, List, [], ◌∷◌, ◌++◌, Option, Some, None}
use Rattle.pgp_base.specs.Wire.{frame}
use Rattle.pgp_frontend.specs.Payload.{Part, joined, Int32, Text, Nullable}
use Rattle.pgserve.specs.declared.script.End.{End}
use Rattle.pgserve.specs.declared.script.End.TheVariants.{Result}

abbrev pub notification : ℤ → List ℕ → List ℕ → List ℕ
notification process channel text = frame 0x41 (joined (Int32 process ∷ Text channel ∷ Text text ∷ []))

abbrev pub setting : List ℕ → List ℕ → List ℕ
setting name value = frame 0x53 (joined (Text name ∷ Text value ∷ []))

-- a FunctionCallResponse
abbrev pub returned : Part → List ℕ
returned result = frame 0x56 (joined (result ∷ []))

-- The message is appended; or nothing is, and the answer isn't sent, for a fault.
abbrev pub Puts : {F : Type 0} → List ℕ → (old new : List ℕ) → (fault : Option F) → Type 0
Puts message old new fault = (new ≡ old ++ message) ⊎ ((new ≡ old) × (fault ≢ None))

-- Nothing is appended but messages that come without a request.
pub data Informs (old : List ℕ) : (new : List ℕ) → Type 0 where
  Nothing : Informs old old
  Notifies : {new : List ℕ} (process : ℤ) (channel text : List ℕ) → Informs old new → Informs old (new ++ notification process channel text)
  Reports : {new : List ℕ} (name value : List ℕ) → Informs old new → Informs old (new ++ setting name value)

-- A call's result that is asked for as a text is the script's; a null is one in each format.
abbrev pub Returns : {F : Type 0} → End → (format : ℤ) → (old new : List ℕ) → (fault : Option F) → Type 0
Returns (Result oid (Some value)) format old new fault = format ≡ pos 0 → Puts (returned (Nullable (Some value.items))) old new fault
Returns (Result oid None) format old new fault = Puts (returned (Nullable None)) old new fault
Returns end format old new fault = Unit {0}
