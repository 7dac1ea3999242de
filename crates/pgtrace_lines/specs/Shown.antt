-- What the line of each message says after its name. PostgreSQL manual, "Message Formats".
use Rattle.std.specs.Prelude.{◌≡◌, ◌⊎◌, ℕ, pos, Bool, true, false, List, [], ◌∷◌, ◌++◌, Option, Some, None, codes}
use Rattle.pgtrace_lines.specs.Common.{IsUtf8, Error, AuthenticationOk, AuthenticationKerberosV5, AuthenticationCleartextPassword, AuthenticationScmCredential, AuthenticationGss, AuthenticationSspi, ParseComplete, BindComplete, CloseComplete, EmptyQueryResponse, CopyDone, NoData, PortalSuspended, AuthenticationMd5Password, AuthenticationGssContinue, AuthenticationSasl, AuthenticationSaslContinue, AuthenticationSaslFinal, Message, NotificationResponse, CommandComplete, DataRow, ErrorResponse, CopyInResponse, CopyOutResponse, BackendKeyData, NegotiateProtocolVersion, NoticeResponse, Authentication, ParameterStatus, RowDescription, ReadyForQuery, CopyData, ParameterDescription, payload_of, value_at, Part, Name, Refusal, Key, Member, Count, ListBegins, ListEnds, ObjectBegins, ObjectEnds, Word, Number, Oid, Text, Value, followed, key, secret, Style}
use Rattle.std.specs.declared.ops.Range.{Range}
use Rattle.pgp_base.specs.Error.{number_of}
use Rattle.pgp_base.specs.Items.{CountedItems, MarkedItems}
use Rattle.pgp_message.specs.Items.{TextSpelled, TextRefused, FormatSpelled, FormatRefused, TypeSpelled, TypeRefused, RangeSpelled, RangeRefused, FieldPart, FieldSpelled, FieldRefused, ErrorPart, ErrorFieldSpelled, ErrorFieldRefused}
use Rattle.pgp_message.specs.Parts.{CopyFormats}
use Rattle.pgtrace_lines.specs.Replication.{ShowsInner}
use Rattle.pgtrace_lines.specs.Names.{name_of, refusal_of, field_of, state_of}

-- the error of a frame
abbrev pub refused : Error → List Part
refused e = Refusal (number_of e) ∷ Word (refusal_of e) ∷ ObjectEnds ∷ []

-- the end of a list, and why it breaks off where it does
abbrev pub ending : (close : Part) → Option Error → List Part
ending close None = close ∷ []
ending close (Some e) = close ∷ refused e

-- the parts of each item, and these after them
abbrev pub each_then : {X : Type 0} → (X → List Part) → List X → List Part → List Part
each_then parts [] more = more
each_then parts (x ∷ xs) more = parts x ++ each_then parts xs more

-- a list that ends so, and one that is a list in JSON too
abbrev pub closed : {X : Type 0} → (close : Part) → (X → List Part) → List X → Option Error → List Part
closed close parts items end = each_then parts items (ending close end)

abbrev pub list_of : {X : Type 0} → (X → List Part) → List X → Option Error → List Part
list_of parts items end = closed ListEnds parts items end

-- the name, or where there is none the byte that stands for it
abbrev pub name_or : Option (List ℕ) → ℕ → List ℕ
name_or (Some name) byte = name
name_or None byte = byte ∷ []

abbrev pub text_part : List ℕ → List Part
text_part text = Text text ∷ []

abbrev pub number_part : ℕ → List Part
number_part n = Number (pos n) ∷ []

abbrev pub type_part : ℕ → List Part
type_part oid = Oid oid ∷ []

abbrev pub value_part : List ℕ → Option (Range ℕ) → List Part
value_part buffer place = Value (value_at buffer place) ∷ []

abbrev pub field_parts : ErrorPart → List Part
field_parts field = key (name_or (field_of field.code) field.code) ∷ Text field.value ∷ []

unfoldable pub column_parts : FieldPart → List Part
column_parts column =
    ObjectBegins ∷ Member (codes "name") ∷ Text column.name
    ∷ key (codes "table") ∷ Number (pos column.table_oid)
    ∷ key (codes "column") ∷ Number column.column_id
    ∷ key (codes "type") ∷ Oid column.type_oid
    ∷ key (codes "size") ∷ Number column.type_size
    ∷ key (codes "modifier") ∷ Number column.type_modifier
    ∷ key (codes "format") ∷ Number column.format ∷ ObjectEnds ∷ []

-- Lines before and after a list that is announced with a count, or that a byte 0 ends, where `parts` are those of an item.
pub record ShowsCounted {V : Type 0} (Spelled : ℕ → V → List ℕ → Type 0) (Refused : List ℕ → Error → Type 0) (parts : V → List Part) (style : Style) (count : ℕ) (bytes old new : List ℕ) : Type 0 where
  pub items : List V
  pub end : Option Error
  pub list : CountedItems Spelled Refused count bytes items end
  pub text : new ≡ followed style old (Count count ∷ list_of parts items end)

pub record ShowsMarked {V : Type 0} (Spelled : ℕ → V → List ℕ → Type 0) (Refused : List ℕ → Error → Type 0) (close : Part) (parts : V → List Part) (style : Style) (bytes old new : List ℕ) : Type 0 where
  pub items : List V
  pub end : Option Error
  pub list : MarkedItems Spelled Refused bytes items end
  pub text : new ≡ followed style old (closed close parts items end)

-- the bytes of a body as they are
abbrev pub bare : List ℕ → List Part
bare body = key (codes "bytes") ∷ Text body ∷ []

-- the line goes on with these parts, where the texts in them are UTF-8, and else with the bytes of the body
abbrev pub ShowsTexts : Style → Type 0 → List Part → List ℕ → List ℕ → List ℕ → Type 0
ShowsTexts style utf8 parts body old new =
    (utf8 × (new ≡ followed style old parts))
    ⊎ ((¬ utf8) × (new ≡ followed style old (bare body)))

abbrev pub ShowsFormats : Style → CopyFormats → List ℕ → List ℕ → Type 0
ShowsFormats style copy old new =
    ShowsCounted FormatSpelled FormatRefused number_part style copy.count copy.storage
    (followed style old (key (codes "format") ∷ Number (pos copy.format) ∷ Key (codes "columns") (codes "column_formats") ∷ [])) new

-- the data of a CopyData
abbrev pub copied : Message → Option (List ℕ)
copied (CopyData bytes) = Some bytes
copied m = None

-- where a message of replication may stand inside them
abbrev pub inner_data : (replicating : Bool) → Message → Option (List ℕ)
inner_data true m = copied m
inner_data false m = None

-- a message of which no more is said than its name
abbrev pub says_nothing : Message → Bool
says_nothing (Authentication AuthenticationOk) = true
says_nothing (Authentication AuthenticationKerberosV5) = true
says_nothing (Authentication AuthenticationCleartextPassword) = true
says_nothing (Authentication AuthenticationScmCredential) = true
says_nothing (Authentication AuthenticationGss) = true
says_nothing (Authentication AuthenticationSspi) = true
says_nothing ParseComplete = true
says_nothing BindComplete = true
says_nothing CloseComplete = true
says_nothing EmptyQueryResponse = true
says_nothing CopyDone = true
says_nothing NoData = true
says_nothing PortalSuspended = true
says_nothing m = false

abbrev pub called : Message → Part
called m = Name (says_nothing m) (name_of m)

-- The line of a message before and after what it says after its name. Salts, the texts of an exchange and keys are secrets.
abbrev pub Shows : Style → Message → List ℕ → List ℕ → Type 0
Shows style (Authentication (AuthenticationMd5Password salt)) old new = new ≡ followed style old (key (codes "salt") ∷ secret style salt ∷ [])
Shows style (Authentication (AuthenticationGssContinue bytes)) old new = new ≡ followed style old (key (codes "data") ∷ secret style bytes ∷ [])
Shows style (Authentication (AuthenticationSasl bytes)) old new = ShowsMarked TextSpelled TextRefused ListEnds text_part style bytes (followed style old (key (codes "mechanisms") ∷ ListBegins ∷ [])) new
Shows style (Authentication (AuthenticationSaslContinue bytes)) old new = new ≡ followed style old (key (codes "data") ∷ secret style bytes ∷ [])
Shows style (Authentication (AuthenticationSaslFinal bytes)) old new = new ≡ followed style old (key (codes "data") ∷ secret style bytes ∷ [])
Shows style (NotificationResponse n) old new = ShowsTexts style (IsUtf8 n.channel × IsUtf8 n.message)
    (Key (codes "process") (codes "process_id") ∷ Number n.process_id ∷ key (codes "channel") ∷ Text n.channel ∷ key (codes "payload") ∷ Text n.message ∷ [])
    (payload_of (NotificationResponse n)) old new
Shows style (CommandComplete tag) old new = ShowsTexts style (IsUtf8 tag) (Key (codes "tag") (codes "command_tag") ∷ Text tag ∷ []) (payload_of (CommandComplete tag)) old new
Shows style (DataRow row) old new = ShowsCounted RangeSpelled RangeRefused (value_part row.storage) style row.count row.storage (followed style old (key (codes "values") ∷ [])) new
Shows style (ErrorResponse bytes) old new = ShowsMarked ErrorFieldSpelled ErrorFieldRefused ObjectEnds field_parts style bytes (followed style old (Member (codes "fields") ∷ ObjectBegins ∷ [])) new
Shows style (CopyInResponse copy) old new = ShowsFormats style copy old new
Shows style (CopyOutResponse copy) old new = ShowsFormats style copy old new
Shows style (BackendKeyData key) old new = new ≡ followed style old (Key (codes "process") (codes "process_id") ∷ Number key.process_id ∷ Key (codes "key") (codes "secret_key") ∷ secret style key.secret_key ∷ [])
Shows style (NegotiateProtocolVersion n) old new = ShowsCounted TextSpelled TextRefused text_part style n.count n.options
    (followed style old (key (codes "version") ∷ Number n.version ∷ key (codes "options") ∷ [])) new
Shows style (NoticeResponse bytes) old new = ShowsMarked ErrorFieldSpelled ErrorFieldRefused ObjectEnds field_parts style bytes (followed style old (Member (codes "fields") ∷ ObjectBegins ∷ [])) new
Shows style (ParameterStatus setting) old new = ShowsTexts style (IsUtf8 setting.name × IsUtf8 setting.value)
    (Key (codes "name") (codes "parameter") ∷ Text setting.name ∷ key (codes "value") ∷ Text setting.value ∷ [])
    (payload_of (ParameterStatus setting)) old new
Shows style (RowDescription row) old new = ShowsCounted FieldSpelled FieldRefused column_parts style row.count row.storage (followed style old (key (codes "columns") ∷ [])) new
Shows style (ReadyForQuery status) old new = new ≡ followed style old (Member (codes "status") ∷ Word (name_or (state_of status) status) ∷ [])
Shows style (CopyData bytes) old new = new ≡ followed style old (key (codes "data") ∷ Value (Some bytes) ∷ [])
Shows style (ParameterDescription row) old new = ShowsCounted TypeSpelled TypeRefused type_part style row.count row.storage (followed style old (key (codes "types") ∷ [])) new
Shows style m old new = new ≡ old

-- the same in a replication stream, where data may hold a server's message
abbrev pub Says : (inside : Option (List ℕ)) → Style → Message → List ℕ → List ℕ → Type 0
Says (Some bytes) style m old new = ShowsInner false style bytes old new
Says None style m old new = Shows style m old new
