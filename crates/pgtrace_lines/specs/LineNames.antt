-- The names that lines have, and the words that mean them.
use Rattle.std.specs.Prelude.{◌≡◌, ◌≢◌, ℕ, Bool, true, false, ◌||◌, List, [], ◌∷◌, Option, None, Some, ◌==◌, if◌then◌else◌, codes}
use Rattle.std.specs.List.{filter_map, find}
use Rattle.std.specs.Option.{option_or}
use Rattle.std.specs.Str.{str_eq_ignore_ascii_case}
use Rattle.pgtrace_lines.specs.Common.{bytes_eq, slice_split}

-- Each once: a server's messages, what answers have that are no messages as they are read elsewhere, rejected frames, and a client's messages.
unfoldable pub line_names : List (List ℕ)
line_names =
    codes "AuthenticationOk" ∷ codes "AuthenticationKerberosV5" ∷ codes "AuthenticationCleartextPassword" ∷ codes "AuthenticationMD5Password" ∷ codes "AuthenticationSCMCredential"
    ∷ codes "AuthenticationGSS" ∷ codes "AuthenticationGSSContinue" ∷ codes "AuthenticationSSPI" ∷ codes "AuthenticationSASL" ∷ codes "AuthenticationSASLContinue" ∷ codes "AuthenticationSASLFinal"
    ∷ codes "BackendKeyData" ∷ codes "BindComplete" ∷ codes "CloseComplete" ∷ codes "CommandComplete" ∷ codes "CopyBothResponse" ∷ codes "CopyData" ∷ codes "CopyDone" ∷ codes "CopyInResponse"
    ∷ codes "CopyOutResponse" ∷ codes "DataRow" ∷ codes "EmptyQueryResponse" ∷ codes "ErrorResponse" ∷ codes "FunctionCallResponse" ∷ codes "NegotiateProtocolVersion" ∷ codes "NoData"
    ∷ codes "NoticeResponse" ∷ codes "NotificationResponse" ∷ codes "ParameterDescription" ∷ codes "ParameterStatus" ∷ codes "ParseComplete" ∷ codes "PortalSuspended" ∷ codes "ReadyForQuery"
    ∷ codes "RowDescription" ∷ codes "SSLResponse" ∷ codes "GSSENCResponse" ∷ codes "SSLResponse or GSSENCResponse" ∷ codes "fault"
    ∷ codes "Bind" ∷ codes "CancelRequest" ∷ codes "Close" ∷ codes "CopyFail" ∷ codes "Describe" ∷ codes "Execute" ∷ codes "Flush" ∷ codes "FunctionCall" ∷ codes "GSSENCRequest" ∷ codes "Parse"
    ∷ codes "PasswordMessage" ∷ codes "Query" ∷ codes "SASLInitialResponse" ∷ codes "SASLResponse" ∷ codes "Password, SASLInitialResponse or SASLResponse" ∷ codes "SSLRequest"
    ∷ codes "StartupMessage" ∷ codes "Sync" ∷ codes "Terminate" ∷ []

-- the name that a word is, but for the case of its letters of ASCII
unfoldable pub name_meant : List ℕ → Option (List ℕ)
name_meant word = find (λ name. str_eq_ignore_ascii_case name word) line_names

abbrev pub is_comma : ℕ → Bool
is_comma byte = byte == 44

-- The names that a word means: the one that it is, or else those between its commas, since there is a name with a comma in it.
abbrev pub names_by : Option (List ℕ) → List ℕ → List (List ℕ)
names_by (Some name) word = name ∷ []
names_by None word = filter_map name_meant (slice_split is_comma word)

abbrev pub names_in : List ℕ → List (List ℕ)
names_in word = names_by (name_meant word) word

-- The first text between its commas that is no name, where the word isn't one.
abbrev pub is_none : Option (List ℕ) → Bool
is_none None = true
is_none (Some name) = false

abbrev pub is_unknown : List ℕ → Bool
is_unknown word = is_none (name_meant word)

abbrev pub unknown_by : Option (List ℕ) → List ℕ → Option (List ℕ)
unknown_by (Some name) word = None
unknown_by None word = find is_unknown (slice_split is_comma word)

unfoldable pub unknown_of : List ℕ → Option (List ℕ)
unknown_of word = unknown_by (name_meant word) word

-- no word stands first in which all are names
abbrev pub BeginsWithNoNames : List (List ℕ) → Type 0
BeginsWithNoNames words = (names : List ℕ) (more : List (List ℕ)) → unknown_of names ≡ None → words ≢ names ∷ more

-- behind this word stand names
abbrev pub takes_names : List ℕ → Bool
takes_names word = bytes_eq word (codes "--only") || bytes_eq word (codes "--except")

abbrev pub unknown_first : List (List ℕ) → Option (List ℕ)
unknown_first [] = None
unknown_first (word ∷ more) = unknown_of word

-- the first in the word behind, where names stand there
abbrev pub unknown_behind : List ℕ → List (List ℕ) → Option (List ℕ)
unknown_behind word more = if takes_names word then unknown_first more else None

-- the first in any word behind which names stand
abbrev pub unknown_in : List (List ℕ) → Option (List ℕ)
unknown_in [] = None
unknown_in (word ∷ more) = option_or (unknown_behind word more) (unknown_in more)
