-- The end of the answer to a request that stands alone, and what is sent in idle time.
-- PostgreSQL manual, "Message Flow": "Simple Query", "Function Call", "Asynchronous Operations"; "Message Formats": ReadyForQuery.
use Rattle.std.specs.Prelude.{◌≡◌, ◌≢◌, ◌⊎◌, ℕ, Bool, true, false, List, [], ◌∷◌, ◌++◌, Option, None}
use Rattle.pgp_base.specs.Wire.{frame}
use Rattle.pgp_session.specs.Transaction.{letter}
use Rattle.pgp_session.specs.declared.transaction.Status.{Status}
use Rattle.pgp_session.specs.declared.transaction.Status.TheVariants.{Idle}
use Rattle.pgserve.specs.Sent.{Informs}

-- a ReadyForQuery
abbrev pub ready : Status → List ℕ
ready status = frame 0x5a (letter status ∷ [])

-- a ReadyForQuery of this status is the last message
abbrev pub EndsReady : Status → List ℕ → Type 0
EndsReady status bytes = (front : List ℕ) × (bytes ≡ front ++ ready status)

-- It was said that the server is ready, and idle time begins, or a transaction is open; or the answer isn't sent, for a fault.
abbrev pub Says : {F : Type 0} → Status → (is_idle : Bool) → (old new : List ℕ) → (fault : Option F) → Type 0
Says status true old new fault = (status ≡ Idle) × (new ≡ old ++ ready status)
Says status false old new fault = ((status ≢ Idle) × (new ≡ old ++ ready status)) ⊎ (fault ≢ None)

-- Behind what was answered come messages without a request, and a ReadyForQuery of this status as the last.
abbrev pub IsReady : Status → (answer all : List ℕ) → Type 0
IsReady status answer all = (informed : List ℕ) × Informs answer informed × (all ≡ informed ++ ready status)

-- After that it is idle time, and nothing is sent in it but messages that come without a request.
abbrev pub IsIdle : (answer all : List ℕ) → Type 0
IsIdle answer all = (to : List ℕ) × IsReady Idle answer to × Informs to all

-- The answer has its end, behind all that stood there. In a transaction a ReadyForQuery is the last message; else one begins idle time, and all that waited
-- for it was taken; or it isn't sent, for a fault.
abbrev pub HasEnd : {L F : Type 0} → Status → (later : List L) → (answer all : List ℕ) → (fault : Option F) → Type 0
HasEnd status later answer all fault = ((status ≢ Idle) × IsReady status answer all)
    ⊎ (((status ≡ Idle) × (later ≡ []) × IsIdle answer all) ⊎ (fault ≢ None))

-- the end of an answer, whichever it is
abbrev pub IsEnded : {L F : Type 0} → Status → (later : List L) → List ℕ → (fault : Option F) → Type 0
IsEnded status later all fault = (answer : List ℕ) × HasEnd status later answer all fault
