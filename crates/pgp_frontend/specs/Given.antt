-- What the writers over iterators come to. What an iterator gave is one relation: `given xs None` says that it
-- gave xs and ended, `given xs (Some x)` that it gave xs and then x. The trace of a call is the message of what came so
-- far: a refused call was refused for the first cause of its trace, or for want of the memory that this message needs.
use Rattle.std.specs.Prelude.{◌≡◌, ◌⊎◌, ◌<◌, ℕ, ℤ, List, [], ◌∷◌, ◌++◌, length, map, Option, Some, None, option_to_list, Result, Ok, Err}
use Rattle.std.specs.List.{flat_map}
use Rattle.std.specs.Borrow.{Bor}
use Rattle.pgp_base.specs.Wire.{uint16, uint32, nullable}
use Rattle.pgp_base.specs.Calls.{Puts, Gives, Runs}
use Rattle.pgp_base.specs.Cause.{Wants, WantsMemory}
use Rattle.pgp_base.specs.Held.{Held, ◌⊕◌, Leaves}
use Rattle.pgp_base.specs.declared.error.Error.{Error}
use Rattle.pgp_base.specs.declared.number.IsNull.{IsNull}
use Rattle.pgp_base.specs.declared.number.IsNull.TheVariants.{No}
use Rattle.pgp_base.specs.declared.error.BindError.{BindError}
use Rattle.pgp_base.specs.declared.error.BindError.TheVariants.{Conversion, Serialization}
use Rattle.pgp_frontend.specs.ClientMessage.{ClientMessage, Bind, Parse, Startup}
use Rattle.pgp_frontend.specs.declared.startup.ProtocolVersion.{ProtocolVersion}
use Rattle.pgp_frontend.specs.Payload.{Part, Text, Int16s, Oids, Values, Pairs, minor_of, parts, part_cause, parts_cause, joined, cause, bytes_of, IsInRange}
use denote.Ref.{MutBor}

-- The message of all that the iterators gave, which `Whole` says, stands after what the buffer held, and
-- has no cause.
pub record Appended {K : Type 0} (Whole : ClientMessage → Type 0) (old new : Held K) : Type 0 where
  pub message : ClientMessage
  pub whole : Whole message
  pub in_range : IsInRange message
  pub none : cause message ≡ None
  pub appended : new ≡ old ⊕ bytes_of message

-- `SoFar` reports the message of what came so far.
module _ (Whole SoFar : ClientMessage → Type 0) where
  -- Why the call was refused: for lack of memory that the message so far needs, or for the first cause of its parts;
  -- or all came, no part has a cause, and the length of the whole has.
  abbrev pub Refused : {K : Type 0} → (Held K → ℕ → Type 0) → Held K → Error → Type 0
  Refused lacks old e = ((m : ClientMessage) × SoFar m × (WantsMemory (Wants lacks old (length (bytes_of m))) e ⊎ (parts_cause (parts m) ≡ Some e)))
      ⊎ ((m : ClientMessage) × Whole m × (parts_cause (parts m) ≡ None) × (cause m ≡ Some e))

  -- It appends the message of all items; or it leaves the bytes, and is rejected.
  abbrev pub WritesGiven : {K : Type 0} → (Held K → ℕ → Type 0) → Held K → Held K → Result (Unit {0}) Error → Type 0
  WritesGiven lacks old new (Ok done) = Appended Whole old new
  WritesGiven lacks old new (Err e) = Refused lacks old e × Leaves old new

-- The items that came so far: those before the last have no cause, as their part says, and it is one that came next, if
-- any did.
pub record ReceivedUpTo {A : Type 0} (given : List A → Option A → Type 0) (part : List A → Part) (xs : List A) : Type 0 where
  pub before : List A
  pub next : Option A
  pub received : given before next
  pub none : part_cause (part before) ≡ None
  pub are : xs ≡ before ++ option_to_list next

-- none was asked for, or these came so far
abbrev pub Arrived : {A : Type 0} → (List A → Option A → Type 0) → (List A → Part) → List A → Type 0
Arrived given part xs = (xs ≡ []) ⊎ ReceivedUpTo given part xs

-- `parse` of these texts and of the types that were given
module _ (name query : List ℕ) (types : List ℕ → Option ℕ → Type 0) where
  abbrev pub ParseWhole : ClientMessage → Type 0
  ParseWhole m = (ts : List ℕ) × types ts None × (m ≡ Parse name query ts)

  abbrev pub ParseSoFar : ClientMessage → Type 0
  ParseSoFar m = (ts : List ℕ) × Arrived types Oids ts × (m ≡ Parse name query ts)

  abbrev pub WritesParse : {K : Type 0} → (Held K → ℕ → Type 0) → Held K → Held K → Result (Unit {0}) Error → Type 0
  WritesParse lacks old new result = WritesGiven ParseWhole ParseSoFar lacks old new result

-- the bytes of a name and a value, where `show` reports the bytes of a text
abbrev pub shown_by : {T : Type 0} → (T → List ℕ) → T × T → List ℕ × List ℕ
shown_by show x = (show x.0, show x.1)

-- the part of such names and values
abbrev pub pairs_by : {T : Type 0} → (T → List ℕ) → List (T × T) → Part
pairs_by show xs = Pairs (map (shown_by show) xs)

-- the same of lent texts
abbrev pub shown : Bor (List ℕ) × Bor (List ℕ) → List ℕ × List ℕ
shown x = shown_by (λ text. text.now) x

abbrev pub shown_pairs : List (Bor (List ℕ) × Bor (List ℕ)) → Part
shown_pairs xs = Pairs (map shown xs)

-- the startup packet of this version, and of the names and values that were given
module _ {T : Type 0} (show : T → List ℕ) (version : ProtocolVersion) (parameters : List (T × T) → Option (T × T) → Type 0) where
  abbrev pub StartupWhole : ClientMessage → Type 0
  StartupWhole m = (xs : List (T × T)) × parameters xs None × (m ≡ Startup (minor_of version) (map (shown_by show) xs))

  abbrev pub StartupSoFar : ClientMessage → Type 0
  StartupSoFar m = (xs : List (T × T)) × Arrived parameters (pairs_by show) xs × (m ≡ Startup (minor_of version) (map (shown_by show) xs))

-- `startup_message_version` of this version, and of the texts that were given
module _ (version : ProtocolVersion) (parameters : List (Bor (List ℕ) × Bor (List ℕ)) → Option (Bor (List ℕ) × Bor (List ℕ)) → Type 0) where
  abbrev pub WritesStartup : {K : Type 0} → (Held K → ℕ → Type 0) → Held K → Held K → Result (Unit {0}) Error → Type 0
  WritesStartup lacks old new result = WritesGiven (StartupWhole (λ text. text.now) version parameters) (StartupSoFar (λ text. text.now) version parameters) lacks old new result

-- a call of a serializer: the item, its answer, and the bytes that it put after the place of the value's length
pub record Call (T E : Type 0) : Type 0 where
  pub item : T
  pub answer : Result IsNull E
  pub bytes : List ℕ

-- What a serializer did, which began as `f` and was left as `last`. With `here` in the buffer it was called once
-- at each of xs, in order, each time after the values before it, and made vs; and then at one item more, if a
-- call is reported that made no value.
module _ {F T E B K : Type 0} (held : B → Held K) (step : F → T → MutBor B → Result IsNull E → MutBor B → F → Type 0) (f last : F) where
  abbrev pub Serves : Held K → List T → List (Option (List ℕ)) → Option (Call T E) → Type 0
  Serves here xs vs None = Runs (Gives held step) nullable here f xs vs last
  Serves here xs vs (Some call) = (at : F) × Runs (Gives held step) nullable here f xs vs at
      × Puts held step (here ⊕ flat_map nullable vs ⊕ uint32 0) at call.item call.answer call.bytes last

-- The values of the items that were given, as `serves` says what the serializer did. `here` is what the buffer
-- holds before the first of them.
module _ {T E K : Type 0} (given : List T → Option T → Type 0) (serves : Held K → List T → List (Option (List ℕ)) → Option (Call T E) → Type 0) (here : Held K) where
  -- the serializer made vs of all items
  pub record Served (vs : List (Option (List ℕ))) : Type 0 where
    pub xs : List T
    pub received : given xs None
    pub made : serves here xs vs None

  -- The values so far, up to the item x: the serializer made those before it. It wasn't called at x, for whose value a
  -- null stands; or it put these bytes, and the call was rejected for them.
  pub record ValuesUpTo (vs : List (Option (List ℕ))) : Type 0 where
    pub xs : List T
    pub x : T
    pub received : given xs (Some x)
    pub before : List (Option (List ℕ))
    pub none : part_cause (Values before) ≡ None
    pub value : Option (List ℕ)
    pub are : vs ≡ before ++ value ∷ []
    pub made : (serves here xs before None × (value ≡ None))
        ⊎ ((length xs < 65535) × ((bytes : List ℕ) × serves here xs before (Some (record { item = x; answer = Ok No; bytes = bytes })) × (value ≡ Some bytes)))

  -- the serializer rejected with e
  pub record Converts (e : E) : Type 0 where
    pub xs : List T
    pub x : T
    pub received : given xs (Some x)
    pub few : length xs < 65535
    pub before : List (Option (List ℕ))
    pub bytes : List ℕ
    pub made : serves here xs before (Some (record { item = x; answer = Err e; bytes = bytes }))

-- what the buffer holds before the first value of a `bind`: zeros stand where the length and the count of values are to come
abbrev pub before_values : {K : Type 0} → Held K → List ℕ → List ℕ → List ℤ → Held K
before_values old portal statement formats = old ⊕ 66 ∷ [] ⊕ uint32 0 ⊕ joined (Text portal ∷ Text statement ∷ Int16s formats ∷ []) ⊕ uint16 0

-- `bind` of these texts, and of the formats and items that were given
module _ {T E K : Type 0} (portal statement : List ℕ) (formats : List ℤ → Option ℤ → Type 0) (values : List T → Option T → Type 0)
    (serves : Held K → List T → List (Option (List ℕ)) → Option (Call T E) → Type 0) (result_formats : List ℤ → Option ℤ → Type 0) (old : Held K) where
  -- the serializer made vs of all items, after these formats
  abbrev pub AllServed : List ℤ → List (Option (List ℕ)) → Type 0
  AllServed fs vs = Served values serves (before_values old portal statement fs) vs

  abbrev pub BindWhole : ClientMessage → Type 0
  BindWhole m = (fs : List ℤ) × formats fs None
      × ((vs : List (Option (List ℕ))) × AllServed fs vs
      × ((rs : List ℤ) × result_formats rs None × (m ≡ Bind portal statement fs vs rs)))

  -- the parts before the values came whole, and have no cause
  abbrev pub ComesToValues : List ℤ → Type 0
  ComesToValues fs = formats fs None × (parts_cause (Text portal ∷ Text statement ∷ Int16s fs ∷ []) ≡ None)

  -- formats so far, and the serializer wasn't called
  abbrev pub FormatsReceived : ClientMessage → Type 0
  FormatsReceived m = serves old [] [] None × ((fs : List ℤ) × Arrived formats Int16s fs × (m ≡ Bind portal statement fs [] []))

  -- all formats, and values so far
  abbrev pub ValuesReceived : ClientMessage → Type 0
  ValuesReceived m = (fs : List ℤ) × ComesToValues fs × ((vs : List (Option (List ℕ))) × ValuesUpTo values serves (before_values old portal statement fs) vs × (m ≡ Bind portal statement fs vs []))

  -- all values too, which have no cause, and formats of results so far
  abbrev pub ResultsReceived : ClientMessage → Type 0
  ResultsReceived m = (fs : List ℤ) × ComesToValues fs
      × ((vs : List (Option (List ℕ))) × AllServed fs vs × (part_cause (Values vs) ≡ None)
      × ((rs : List ℤ) × Arrived result_formats Int16s rs × (m ≡ Bind portal statement fs vs rs)))

  abbrev pub BindSoFar : ClientMessage → Type 0
  BindSoFar m = FormatsReceived m ⊎ (ValuesReceived m ⊎ ResultsReceived m)

  -- why the call was rejected: by the serializer, or as any writer
  abbrev pub BindRefused : (Held K → ℕ → Type 0) → BindError E → Type 0
  BindRefused lacks (Conversion e) = (fs : List ℤ) × ComesToValues fs × Converts values serves (before_values old portal statement fs) e
  BindRefused lacks (Serialization e) = Refused BindWhole BindSoFar lacks old e

  abbrev pub WritesBind : (Held K → ℕ → Type 0) → Held K → Result (Unit {0}) (BindError E) → Type 0
  WritesBind lacks new (Ok done) = Appended BindWhole old new
  WritesBind lacks new (Err e) = BindRefused lacks e × Leaves old new
