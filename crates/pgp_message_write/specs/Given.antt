-- What the writers of lists over iterators come to. `given xs None` says that the iterator gave xs and ended, `given xs (Some x)`
-- that it gave xs and then x. `number` is the cause of so many items, and `ps` are the parts of the message of these.
use Rattle.std.specs.Prelude.{◌≡◌, ◌⊎◌, ℕ, List, [], ◌++◌, length, Option, Some, None, option_to_list, Result, Ok, Err}
use Rattle.pgp_base.specs.Cause.{Cause, either, Wants, WantsMemory}
use Rattle.pgp_base.specs.Held.{Held, ◌⊕◌, Leaves}
use Rattle.pgp_base.specs.declared.error.Error.{Error}
use Rattle.pgp_frontend.specs.Payload.{Part, parts_cause, frame_cause}
use Rattle.pgp_message.specs.BackendMessage.{Message}
use Rattle.pgp_message_write.specs.Reply.{bytes_of}

-- a list with no count
abbrev pub uncounted : ℕ → Cause
uncounted n = None

-- Why these items have no spelling: there are too many, or the first that has none.
abbrev pub items_cause : {A : Type 0} → (ℕ → Cause) → (List A → List Part) → List A → Cause
items_cause number ps xs = either (number (length xs)) (parts_cause (ps xs))

module _ {A : Type 0} (given : List A → Option A → Type 0) (number : ℕ → Cause) (ps : List A → List Part) where
  -- The items that came so far: those before the last have no cause, and it is one that came next, if any did.
  pub record ReceivedUpTo (xs : List A) : Type 0 where
    pub before : List A
    pub next : Option A
    pub received : given before next
    pub none : items_cause number ps before ≡ None
    pub are : xs ≡ before ++ option_to_list next

  -- none was asked for, or these came so far
  abbrev pub Arrived : List A → Type 0
  Arrived xs = (xs ≡ []) ⊎ ReceivedUpTo xs

  -- `bytes` are those of the message of these items
  module _ (bytes : List A → List ℕ) where
    -- the items so far were refused: for lack of memory that their message needs, or for its first cause
    abbrev pub SoFarRefused : {K : Type 0} → (Held K → ℕ → Type 0) → Held K → Error → Type 0
    SoFarRefused lacks old e = (xs : List A) × Arrived xs × (WantsMemory (Wants lacks old (length (bytes xs))) e ⊎ (items_cause number ps xs ≡ Some e))

    -- Why the call was rejected: that; or all came, none has a cause, and the length of the whole
    -- has.
    abbrev pub GivenRefused : {K : Type 0} → (Held K → ℕ → Type 0) → Held K → Error → Type 0
    GivenRefused lacks old e = SoFarRefused lacks old e
        ⊎ ((xs : List A) × given xs None × (items_cause number ps xs ≡ None) × (frame_cause (ps xs) ≡ Some e))

    -- It appends the message of all items, which has no cause; or it leaves the bytes, and is
    -- rejected.
    abbrev pub WritesBytes : {K : Type 0} → (Held K → ℕ → Type 0) → Held K → Held K → Result (Unit {0}) Error → Type 0
    WritesBytes lacks old new (Ok done) = (xs : List A) × given xs None × (either (number (length xs)) (frame_cause (ps xs)) ≡ None) × (new ≡ old ⊕ bytes xs)
    WritesBytes lacks old new (Err e) = GivenRefused lacks old e × Leaves old new

  -- The call of a writer of the message of the items that were given.
  abbrev pub WritesGiven : {K : Type 0} → (List A → Message) → (Held K → ℕ → Type 0) → Held K → Held K → Result (Unit {0}) Error → Type 0
  WritesGiven message lacks old new result = WritesBytes (λ xs. bytes_of (message xs)) lacks old new result
