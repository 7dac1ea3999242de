-- What each message of a server is made of, as its writer spells it.
-- PostgreSQL manual, "Message Formats"; keys that haven't 4 bytes, and the answer about versions: this project's profile of protocol 3.2.
use Rattle.std.specs.Prelude.{ℕ, ◌≡◌, ◌≢◌, ◌<◌, ◌^◌, ℤ, pos, List, [], ◌∷◌, ◌++◌, length, Option, Some, None, FitsSigned, Result}
use Rattle.std.specs.List.{flat_map}
use Rattle.std.specs.Int.{w32}
use Rattle.std.specs.Str.{IsUtf8}
use Rattle.pgp_base.specs.Wire.{uint16, frame, IsBytes, HasNoZero}
use Rattle.pgp_base.specs.Cause.{Cause, either, Writes}
use Rattle.pgp_base.specs.Held.{Held}
use Rattle.pgp_base.specs.declared.error.Error.{Error}
use Rattle.pgp_frontend.specs.Payload.{Part, Byte, Int32, Text, Rest, Key, joined, frame_cause, WritesFrame}
use Rattle.pgp_message.specs.BackendMessage.{Message, code_of, details_of, tag_of, AuthenticationMd5Password, ParseComplete, BindComplete, CloseComplete, NotificationResponse, CommandComplete, DataRow, ErrorResponse, CopyInResponse, CopyOutResponse, EmptyQueryResponse, BackendKeyData, NegotiateProtocolVersion, NoticeResponse, Authentication, ParameterStatus, RowDescription, ReadyForQuery, CopyDone, CopyData, NoData, PortalSuspended, ParameterDescription}
use Rattle.pgp_message.specs.Items.{FieldPart, ErrorPart, NumbersFit}
use Rattle.pgp_message.specs.Parts.{CountedBytes, CopyFormats}
use Rattle.pgp_message_write.specs.Lists.{value_parts, text_parts, format_parts, type_parts, field_parts, column_parts}

-- a count, and the items as they are spelled
abbrev pub counted_parts : CountedBytes → List Part
counted_parts c = Rest (uint16 c.count) ∷ Rest c.storage ∷ []

abbrev pub copy_parts : CopyFormats → List Part
copy_parts c = Byte c.format ∷ Rest (uint16 c.count) ∷ Rest c.storage ∷ []

-- the parts of a message; a list stands in it as the bytes of its items
abbrev pub parts : Message → List Part
parts ParseComplete = []
parts BindComplete = []
parts CloseComplete = []
parts (NotificationResponse n) = Int32 n.process_id ∷ Text n.channel ∷ Text n.message ∷ []
parts (CommandComplete tag) = Text tag ∷ []
parts (DataRow row) = counted_parts row
parts (ErrorResponse bytes) = Rest bytes ∷ []
parts (CopyInResponse copy) = copy_parts copy
parts (CopyOutResponse copy) = copy_parts copy
parts EmptyQueryResponse = []
parts (BackendKeyData key) = Int32 key.process_id ∷ Key key.secret_key ∷ []
parts (NegotiateProtocolVersion n) = Int32 n.version ∷ Int32 (pos n.count) ∷ Rest n.options ∷ []
parts (NoticeResponse bytes) = Rest bytes ∷ []
parts (Authentication request) = Int32 (pos (code_of request)) ∷ Rest (details_of request) ∷ []
parts (ParameterStatus setting) = Text setting.name ∷ Text setting.value ∷ []
parts (RowDescription row) = counted_parts row
parts (ReadyForQuery status) = Byte status ∷ []
parts CopyDone = []
parts (CopyData bytes) = Rest bytes ∷ []
parts NoData = []
parts PortalSuspended = []
parts (ParameterDescription row) = counted_parts row

abbrev pub bytes_of : Message → List ℕ
bytes_of m = frame (tag_of m) (joined (parts m))

-- why a message has no spelling
abbrev pub cause : Message → Cause
cause m = frame_cause (parts m)

-- the numbers are in their fields' ranges
abbrev pub IsInRange : Message → Type 0
IsInRange (NotificationResponse n) = FitsSigned w32 n.process_id
IsInRange (DataRow row) = row.count < 2 ^ 16
IsInRange (CopyInResponse copy) = copy.count < 2 ^ 16
IsInRange (CopyOutResponse copy) = copy.count < 2 ^ 16
IsInRange (BackendKeyData key) = FitsSigned w32 key.process_id
IsInRange (NegotiateProtocolVersion n) = FitsSigned w32 n.version × FitsSigned w32 (pos n.count)
IsInRange (Authentication (AuthenticationMd5Password salt)) = length salt ≡ 4
IsInRange (RowDescription row) = row.count < 2 ^ 16
IsInRange (ParameterDescription row) = row.count < 2 ^ 16
IsInRange m = Unit {0}

-- The call of a writer of the message: it appends the message's bytes, and there is no cause; or it leaves the bytes,
-- and is refused for want of the memory that the message needs, or for the first cause.
abbrev pub WritesReply : {K : Type 0} → Message → (Held K → ℕ → Type 0) → Held K → Held K → Result (Unit {0}) Error → Type 0
WritesReply m lacks old new result = IsInRange m × WritesFrame (Some (tag_of m)) (parts m) lacks old new result

-- Messages of lists: how many items there are, and each as its parts.
abbrev pub row_of : List (Option (List ℕ)) → Message
row_of vs = DataRow (record { count = length vs; storage = joined (flat_map value_parts vs) })

abbrev pub description_of : List FieldPart → Message
description_of columns = RowDescription (record { count = length columns; storage = joined (flat_map column_parts columns) })

abbrev pub types_of : List ℕ → Message
types_of types = ParameterDescription (record { count = length types; storage = joined (flat_map type_parts types) })

abbrev pub formats_of : ℕ → List ℕ → CopyFormats
formats_of format formats = record { format = format; count = length formats; storage = joined (flat_map format_parts formats) }

abbrev pub negotiation_of : ℤ → List (List ℕ) → Message
negotiation_of version options = NegotiateProtocolVersion (record { version = version; count = length options; options = joined (flat_map text_parts options) })

-- the fields of an error or a notice, and the names of mechanisms: a 0 byte ends them
abbrev pub fields_of : List ErrorPart → List ℕ
fields_of fields = joined (flat_map field_parts fields) ++ 0 ∷ []

abbrev pub names_of : List (List ℕ) → List ℕ
names_of names = joined (flat_map text_parts names) ++ 0 ∷ []

-- The call of a writer of a message of a list, whose items have these causes: `count` is that of their number, and `ps` are
-- the parts with those of each item.
abbrev pub WritesList : {K : Type 0} → Message → Cause → List Part → (Held K → ℕ → Type 0) → Held K → Held K → Result (Unit {0}) Error → Type 0
WritesList m count ps lacks old new result = Writes (bytes_of m) (either count (frame_cause ps)) lacks old new result

-- the message has a spelling, and it is made of bytes
pub record IsReply (m : Message) : Type 0 where
  pub in_range : IsInRange m
  pub none : cause m ≡ None
  pub bytes : IsBytes (joined (parts m))

-- What is read back of lists: a value has a length, and a column, an option and a mechanism are texts.
abbrev pub IsRowValue : Option (List ℕ) → Type 0
IsRowValue None = Unit {0}
IsRowValue (Some bytes) = length bytes < 2 ^ 31

abbrev pub IsColumn : FieldPart → Type 0
IsColumn x = HasNoZero x.name × IsUtf8 x.name × NumbersFit x

abbrev pub IsOption : List ℕ → Type 0
IsOption z = HasNoZero z × IsUtf8 z

-- an empty name would end the list
abbrev pub IsMechanism : List ℕ → Type 0
IsMechanism z = HasNoZero z × IsUtf8 z × (z ≢ [])
