-- What a writer of one message of a server into memory of the caller's comes to.
use Rattle.std.specs.Prelude.{◌≡◌, ◌≢◌, ◌⊎◌, ℕ, ◌-◌, ◌<◌, ◌≤◌, List, ◌++◌, length, take, drop, Some, None}
use Rattle.pgp_base.specs.Cause.{Cause, either}
use Rattle.pgp_base.specs.Error.{number_of}
use Rattle.pgp_base.specs.declared.error.Error.{Error}
use Rattle.pgp_frontend.specs.Payload.{Part, frame_cause}
use Rattle.pgp_message.specs.BackendMessage.{Message}
use Rattle.pgp_message_write.specs.Given.{items_cause}
use Rattle.pgp_message_write.specs.Reply.{IsInRange, bytes_of, cause}

-- What is spelled so has no cause and fits, stands at the front of the memory, and its length is reported; after it the memory is as it was.
pub record SentAs (spelling : List ℕ) (cause : Cause) (old new : List ℕ) (reported : ℕ) : Type 0 where
  pub none : cause ≡ None
  pub length_is : reported ≡ length spelling
  pub fits : length spelling ≤ length old
  pub stands : new ≡ spelling ++ drop (length spelling) old

-- Nothing is to be sent: the message is longer than the memory, and the code is 1; or it has a fault, whose number is another.
pub record NotSentAs (spelling : List ℕ) (HasFault : Error → Type 0) (old : List ℕ) (reported code : ℕ) : Type 0 where
  pub length_is : reported ≡ 0
  pub why : ((code ≡ 1) × (length old < length spelling)) ⊎ ((code ≢ 1) × ((e : Error) × HasFault e × (code ≡ number_of e)))

-- the message was written
abbrev pub Replied : Message → List ℕ → List ℕ → ℕ → Type 0
Replied m old new reported = IsInRange m × SentAs (bytes_of m) (cause m) old new reported

-- it was not
abbrev pub NotReplied : Message → List ℕ → ℕ → ℕ → Type 0
NotReplied m old reported code = NotSentAs (bytes_of m) (λ e. cause m ≡ Some e) old reported code

-- Of a message of a list: `number` is the cause of so many items, and `ps` are the parts of the message of these.
module _ {A : Type 0} (number : ℕ → Cause) (ps : List A → List Part) where
  abbrev pub list_cause : List A → Cause
  list_cause xs = either (number (length xs)) (frame_cause (ps xs))

  -- The first items, and not fewer of them, have this cause.
  pub record IsFirstFault (xs : List A) (e : Error) : Type 0 where
    pub count : ℕ
    pub some : 0 < count
    pub within : count ≤ length xs
    pub none_before : items_cause number ps (take (count - 1) xs) ≡ None
    pub here : items_cause number ps (take count xs) ≡ Some e

  -- that, or no items have a cause, and the length of the whole has
  abbrev pub HasListFault : List A → Error → Type 0
  HasListFault xs e = IsFirstFault xs e ⊎ ((items_cause number ps xs ≡ None) × (frame_cause (ps xs) ≡ Some e))

  abbrev pub RepliedList : Message → List A → List ℕ → List ℕ → ℕ → Type 0
  RepliedList m xs old new reported = SentAs (bytes_of m) (list_cause xs) old new reported

  abbrev pub NotRepliedList : Message → List A → List ℕ → ℕ → ℕ → Type 0
  NotRepliedList m xs old reported code = NotSentAs (bytes_of m) (HasListFault xs) old reported code
