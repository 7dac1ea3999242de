-- What the line of a client's message says. PostgreSQL manual, "Message Formats".
use Rattle.std.specs.Prelude.{◌≡◌, ℕ, pos, ℤ, ◌+◌, Bool, true, false, ◌==◌, if◌then◌else◌, List, [], ◌∷◌, length, Option, Some, None, Result, Ok, Err, codes}
use Rattle.pgtrace_lines.specs.Common.{ClientMessage, Bind, Close, CopyFail, Describe, Execute, Flush, Parse, PasswordMessage, Query, SaslInitialResponse, SaslResponse, Sync, Terminate, Startup, CancelRequest, SslRequest, GssEncRequest, FunctionCall, ClientError, Style, Part, Name, Key, Member, Count, ListBegins, ObjectBegins, ObjectEnds, Number, Text, Value, followed, key, response_parts, secret}
use Rattle.pgp_frontend.specs.ClientMessage.{CopyData, CopyDone}
use Rattle.pgp_frontend_read.specs.declared.error.ClientError.TheVariants.{UnknownPacket, Reading}
use Rattle.pgtrace_lines.specs.Replication.{ShowsInner}
use Rattle.pgtrace_lines.specs.Shown.{list_of, name_or, refused, type_part}

-- a message of tag `p` of which nothing is known but its tag
abbrev pub some_password : List ℕ
some_password = codes "Password, SASLInitialResponse or SASLResponse"

-- the name of a message, where it is known which message of tag `p` it is or not
abbrev pub client_name : Bool → ClientMessage → List ℕ
client_name reported (Bind portal statement formats values result_formats) = codes "Bind"
client_name reported (Close variant name) = codes "Close"
client_name reported (CopyData bytes) = codes "CopyData"
client_name reported CopyDone = codes "CopyDone"
client_name reported (CopyFail message) = codes "CopyFail"
client_name reported (Describe variant name) = codes "Describe"
client_name reported (Execute portal max_rows) = codes "Execute"
client_name reported Flush = codes "Flush"
client_name reported (FunctionCall function formats arguments result_format) = codes "FunctionCall"
client_name reported (Parse name query param_types) = codes "Parse"
client_name reported (PasswordMessage password) = codes "PasswordMessage"
client_name reported (Query query) = codes "Query"
client_name reported (SaslInitialResponse mechanism response) = codes "SASLInitialResponse"
client_name true (SaslResponse response) = codes "SASLResponse"
client_name false (SaslResponse response) = some_password
client_name reported Sync = codes "Sync"
client_name reported Terminate = codes "Terminate"
client_name reported (Startup minor parameters) = codes "StartupMessage"
client_name reported (CancelRequest process_id secret_key) = codes "CancelRequest"
client_name reported SslRequest = codes "SSLRequest"
client_name reported GssEncRequest = codes "GSSENCRequest"

-- what a message is of, by its letter
abbrev pub object_of : ℕ → Option (List ℕ)
object_of variant =
    if variant == 83 then Some (codes "statement")  -- S
    else if variant == 80 then Some (codes "portal")  -- P
    else None

abbrev pub signed_part : ℤ → List Part
signed_part n = Number n ∷ []

abbrev pub client_value : Option (List ℕ) → List Part
client_value value = Value value ∷ []

abbrev pub pair_parts : List ℕ × List ℕ → List Part
pair_parts pair = ObjectBegins ∷ Member (codes "name") ∷ Text pair.0 ∷ Member (codes "value") ∷ Text pair.1 ∷ ObjectEnds ∷ []

-- a list with its name and how long it is
abbrev pub counted : {X : Type 0} → (word name : List ℕ) → (X → List Part) → List X → List Part
counted word name parts items = Key word name ∷ Count (length items) ∷ list_of parts items None

abbrev pub startup_parts : ℕ → List (List ℕ × List ℕ) → List Part
startup_parts version parameters = key (codes "version") ∷ Number (pos version) ∷ key (codes "parameters") ∷ ListBegins ∷ list_of pair_parts parameters None

-- the first text of an exchange, if there is one
abbrev pub first_text : Style → Option (List ℕ) → Part
first_text style None = Value None
first_text style (Some response) = secret style response

abbrev pub named_object : ℕ → List ℕ → List Part
named_object variant name = key (name_or (object_of variant) variant) ∷ Text name ∷ []

-- The parts of a line after the name, in groups. Passwords, the texts of an exchange and keys are secrets.
abbrev pub client_groups : Style → Bool → ClientMessage → List (List Part)
client_groups style reported (Bind portal statement formats values result_formats) =
    (key (codes "portal") ∷ Text portal ∷ key (codes "statement") ∷ Text statement ∷ [])
    ∷ counted (codes "formats") (codes "formats") signed_part formats ∷ counted (codes "values") (codes "values") client_value values ∷ counted (codes "results") (codes "result_formats") signed_part result_formats ∷ []
client_groups style reported (Close variant name) = named_object variant name ∷ []
client_groups style reported (CopyData bytes) = (key (codes "data") ∷ Value (Some bytes) ∷ []) ∷ []
client_groups style reported (CopyFail message) = (key (codes "message") ∷ Text message ∷ []) ∷ []
client_groups style reported (Describe variant name) = named_object variant name ∷ []
client_groups style reported (Execute portal max_rows) = (key (codes "portal") ∷ Text portal ∷ Key (codes "rows") (codes "max_rows") ∷ Number max_rows ∷ []) ∷ []
client_groups style reported (FunctionCall function formats arguments result_format) =
    (key (codes "function") ∷ Number (pos function) ∷ [])
    ∷ counted (codes "formats") (codes "formats") signed_part formats ∷ counted (codes "values") (codes "arguments") client_value arguments ∷ (Key (codes "result") (codes "result_format") ∷ Number result_format ∷ []) ∷ []
client_groups style reported (Parse name query param_types) =
    (key (codes "statement") ∷ Text name ∷ key (codes "query") ∷ Text query ∷ []) ∷ counted (codes "types") (codes "types") type_part param_types ∷ []
client_groups style reported (PasswordMessage password) = (key (codes "password") ∷ secret style password ∷ []) ∷ []
client_groups style reported (Query query) = (key (codes "query") ∷ Text query ∷ []) ∷ []
client_groups style reported (SaslInitialResponse mechanism response) = (key (codes "mechanism") ∷ Text mechanism ∷ key (codes "data") ∷ first_text style response ∷ []) ∷ []
client_groups style reported (SaslResponse response) = response_parts style reported response ∷ []
client_groups style reported (Startup minor parameters) = startup_parts (196608 + minor) parameters ∷ []
client_groups style reported (CancelRequest process_id secret_key) = (Key (codes "process") (codes "process_id") ∷ Number process_id ∷ Key (codes "key") (codes "secret_key") ∷ secret style secret_key ∷ []) ∷ []
client_groups style reported m = []

-- a message of which no more is said than its name
abbrev pub client_says_nothing : ClientMessage → Bool
client_says_nothing CopyDone = true
client_says_nothing Flush = true
client_says_nothing Sync = true
client_says_nothing Terminate = true
client_says_nothing SslRequest = true
client_says_nothing GssEncRequest = true
client_says_nothing x = false

abbrev pub client_called : Bool → ClientMessage → Part
client_called reported x = Name (client_says_nothing x) (client_name reported x)

-- a line with these groups of parts after it
abbrev pub grouped : Style → List ℕ → List (List Part) → List ℕ
grouped style line [] = line
grouped style line (parts ∷ groups) = grouped style (followed style line parts) groups

-- why a frame is rejected; a packet of unknown code is never passed, and so has no line
abbrev pub refusal_parts : ClientError → List Part
refusal_parts (Reading e) = refused e
refusal_parts (UnknownPacket code) = Name true (codes "packet") ∷ Member (codes "code") ∷ Number code ∷ []

-- the data of a CopyData, where a standby's message may stand inside them
abbrev pub client_copied : ClientMessage → Option (List ℕ)
client_copied (CopyData bytes) = Some bytes
client_copied x = None

abbrev pub client_data : (replicating : Bool) → Result ClientMessage ClientError → Option (List ℕ)
client_data true (Ok x) = client_copied x
client_data true (Err e) = None
client_data false r = None

-- the line goes on with the name of the message and what it says, or with the error
abbrev pub client_line : Style → Bool → Result ClientMessage ClientError → List ℕ → List ℕ
client_line style reported (Ok x) old = grouped style (followed style old (client_called reported x ∷ [])) (client_groups style reported x)
client_line style reported (Err e) old = followed style old (refusal_parts e)

-- and so in a replication stream, where data may hold a standby's message
abbrev pub ClientSays : (inside : Option (List ℕ)) → Style → Bool → Result ClientMessage ClientError → List ℕ → List ℕ → Type 0
ClientSays (Some bytes) style reported r old new = ShowsInner true style bytes (followed style old (Name false (codes "CopyData") ∷ [])) new
ClientSays None style reported r old new = new ≡ client_line style reported r old
