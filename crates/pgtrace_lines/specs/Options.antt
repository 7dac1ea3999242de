-- The options of a listing, as words spell them.
use Rattle.std.specs.Prelude.{◌≡◌, ◌≢◌, ⊤, ℕ, ◌*◌, Ok, Bool, true, false, not, if◌then◌else◌, List, [], ◌∷◌, ◌++◌, None, ◌==◌, codes, map}
use Rattle.std.specs.Borrow.{Bor}
use Rattle.std.specs.Str.Parse.{ParsesUnsigned}
use Rattle.pgtrace_lines.specs.Common.{flat_map, AllByRecursion}
use Rattle.pgp_frontend_read.specs.declared.message.PasswordKind.{PasswordKind}
use Rattle.pgp_frontend_read.specs.declared.message.PasswordKind.TheVariants.{Password, Initial, Response}
use Rattle.pgtrace_lines.specs.declared.marking.Marking.{Marking}
use Rattle.pgtrace_lines.specs.declared.options.Choice.{Choice}
use Rattle.pgtrace_lines.specs.declared.options.Choice.TheVariants.{File, AsJson, Full, Secrets, Resume, Replication, Only, Except, Color, Kind, Time, Requests, Slower, Summary, Fold, Raw, Names}
use Rattle.pgtrace_lines.specs.declared.options.Clock.{Clock}
use Rattle.pgtrace_lines.specs.declared.options.Clock.TheVariants.{Absolute, Relative}
use Rattle.pgtrace_lines.specs.declared.options.Listing.{Listing}
use Rattle.pgtrace_lines.specs.declared.options.Listing.TheVariants.{Server, Client, Session}
use Rattle.pgtrace_lines.specs.declared.options.Options as code
use Rattle.pgtrace_lines.specs.declared.options.When.{When}
use Rattle.pgtrace_lines.specs.declared.options.When.TheVariants.{Auto, Always, Never}
use Rattle.pgtool_line.specs.Styles.{style_of}
use Rattle.pgtrace_lines.specs.LineNames.{names_in, unknown_of}
use Rattle.pgtrace_lines.specs.View.{View, has_word}

abbrev pub kind_word : PasswordKind → List ℕ
kind_word Password = codes "password"
kind_word Initial = codes "initial"
kind_word Response = codes "response"

abbrev pub when_word : When → List ℕ
when_word Auto = codes "auto"
when_word Always = codes "always"
when_word Never = codes "never"

abbrev pub clock_word : Clock → List ℕ
clock_word Absolute = codes "absolute"
clock_word Relative = codes "relative"

-- the name of a file is a word of its own, which begins with no `-`
abbrev pub is_file : List ℕ → Bool
is_file [] = false
is_file (first ∷ more) = not (first == 45)

-- the first word of one, and what stands after it
abbrev pub word_of : Choice → List ℕ
word_of (File name) = name.now
word_of AsJson = codes "--json"
word_of Full = codes "--full"
word_of Secrets = codes "--secrets"
word_of Resume = codes "--resume"
word_of Replication = codes "--replication"
word_of (Only names) = codes "--only"
word_of (Except names) = codes "--except"
word_of (Color when) = codes "--color"
word_of (Kind kind) = codes "--password-kind"
word_of (Time clock) = codes "--time"
word_of Requests = codes "--requests"
word_of (Slower word millis) = codes "--slower"
word_of Summary = codes "--summary"
word_of Fold = codes "--fold"
word_of Raw = codes "--raw"
word_of Names = codes "--names"

abbrev pub argument_of : Choice → List (List ℕ)
argument_of (Only names) = names.now ∷ []
argument_of (Except names) = names.now ∷ []
argument_of (Color when) = when_word when ∷ []
argument_of (Kind kind) = kind_word kind ∷ []
argument_of (Time clock) = clock_word clock ∷ []
argument_of (Slower word millis) = word.now ∷ []
argument_of choice = []

abbrev pub spelled : Choice → List (List ℕ)
spelled choice = word_of choice ∷ argument_of choice

-- The options that each listing has. A recording begins with its connection, and the server says in it which a client's messages of tag `p` are, and whether
-- the stream is one of replication.
abbrev pub options_in : Listing → List (List ℕ)
options_in Server = codes "--json" ∷ codes "--full" ∷ codes "--secrets" ∷ codes "--resume" ∷ codes "--only" ∷ codes "--except" ∷ codes "--color" ∷ []
options_in Client = codes "--json" ∷ codes "--full" ∷ codes "--secrets" ∷ codes "--resume" ∷ codes "--only" ∷ codes "--except" ∷ codes "--color" ∷ codes "--password-kind" ∷ codes "--replication" ∷ []
options_in Session = codes "--json" ∷ codes "--full" ∷ codes "--secrets" ∷ codes "--requests" ∷ codes "--slower" ∷ codes "--raw" ∷ codes "--names" ∷ codes "--summary" ∷ codes "--fold" ∷ codes "--time" ∷ codes "--only" ∷ codes "--except" ∷ codes "--color" ∷ codes "FILE" ∷ []

-- under which word of these an option stands there
abbrev pub key_of : List ℕ → List ℕ
key_of word = if is_file word then codes "FILE" else word

-- of those which have names: lines have all of them; of that which has a number of milliseconds: it is what its word says, and less than 2³²
abbrev pub IsSound : Choice → Type 0
IsSound (File name) = is_file name.now ≡ true
IsSound (Only names) = unknown_of names.now ≡ None
IsSound (Except names) = unknown_of names.now ≡ None
IsSound (Slower word millis) = ParsesUnsigned {E = ⊤} 32 10 word.now (Ok millis)
IsSound choice = ⊤

abbrev pub IsOneOf : List (List ℕ) → Choice → Type 0
IsOneOf has choice = (has_word has (key_of (word_of choice)) ≡ true) × IsSound choice

-- What options come to: of which style lines are, the names of the messages that are listed and of those that aren't, and whether lines have colours; whether a stream is taken in
-- mid-session, whether it is one of replication, and which a client's messages of tag `p` are, from the first on; how late the answers are that are listed,
-- what the marks of a recording say, and the names of files.
pub record Chosen : Type 0 where
  pub json : Bool
  pub full : Bool
  pub secrets : Bool
  pub resume : Bool
  pub replicating : Bool
  pub only : List (List ℕ)
  pub except : List (List ℕ)
  pub colored : Bool
  pub kinds : List PasswordKind
  pub slower : ℕ
  pub marking : Marking
  pub files : List (List ℕ)

-- with none, where a terminal shows the listing or not
abbrev pub nothing_chosen : (terminal : Bool) → Chosen
nothing_chosen terminal = record { json = false; full = false; secrets = false; resume = false; replicating = false; only = []; except = []; colored = terminal; kinds = []; slower = 0; marking = record { absolute = false; numbered = false; summed = false; folded = false; raw = false; named = false }; files = [] }

-- whether a listing has colours that a terminal shows or not
abbrev pub is_colored : (terminal : Bool) → When → Bool
is_colored terminal Auto = terminal
is_colored terminal Always = true
is_colored terminal Never = false

abbrev pub is_absolute : Clock → Bool
is_absolute Absolute = true
is_absolute Relative = false

-- what one changes of marks: of those that say what times are counted from the last counts, and for a summary or late answers requests are numbered
abbrev pub marks : Choice → Marking → Marking
marks (Time clock) m = record m { absolute = is_absolute clock }
marks (Slower word millis) m = record m { numbered = true }
marks Requests m = record m { numbered = true }
marks Summary m = record m { numbered = true; summed = true }
marks Fold m = record m { folded = true }
marks Raw m = record m { raw = true }
marks Names m = record m { named = true }
marks choice m = m

-- What one more changes. Of those that say when a listing has colours the last counts.
abbrev pub chooses : (terminal : Bool) → Chosen → Choice → Chosen
chooses terminal o (File name) = record o { files = o.files ++ name.now ∷ [] }
chooses terminal o AsJson = record o { json = true }
chooses terminal o Full = record o { full = true }
chooses terminal o Secrets = record o { secrets = true }
chooses terminal o Resume = record o { resume = true }
chooses terminal o Replication = record o { replicating = true }
chooses terminal o (Only names) = record o { only = o.only ++ names_in names.now }
chooses terminal o (Except names) = record o { except = o.except ++ names_in names.now }
chooses terminal o (Color when) = record o { colored = is_colored terminal when }
chooses terminal o (Kind kind) = record o { kinds = o.kinds ++ kind ∷ [] }
chooses terminal o (Slower word millis) = record o { slower = millis * 1000; marking = marks (Slower word millis) o.marking }
chooses terminal o choice = record o { marking = marks choice o.marking }

-- what all do, one after another
abbrev pub chosen_by : (terminal : Bool) → Chosen → List Choice → Chosen
chosen_by terminal o [] = o
chosen_by terminal o (choice ∷ more) = chosen_by terminal (chooses terminal o choice) more

-- The words are options that the listing has, one after another, in any order, and come to this where a terminal shows the listing or not.
pub record AreOptions (terminal : Bool) (has words : List (List ℕ)) (chosen : Chosen) : Type 0 where
  pub choices : List Choice
  pub spelling : words ≡ flat_map spelled choices
  pub each : AllByRecursion (IsOneOf has) choices
  pub comes_to : chosen ≡ chosen_by terminal (nothing_chosen terminal) choices

-- the words are no such
abbrev pub AreNoOptions : List (List ℕ) → List (List ℕ) → Type 0
AreNoOptions has words = (choices : List Choice) → AllByRecursion (IsOneOf has) choices → words ≢ flat_map spelled choices

-- no option stands first
abbrev pub BeginsWithNone : List (List ℕ) → Type 0
BeginsWithNone words = (choice : Choice) (more : List (List ℕ)) → IsSound choice → words ≢ spelled choice ++ more

-- none that the listing has
abbrev pub BeginsWithNoneOf : List (List ℕ) → List (List ℕ) → Type 0
BeginsWithNoneOf has words = (choice : Choice) (more : List (List ℕ)) → IsOneOf has choice → words ≢ spelled choice ++ more

-- how a listing looks for which this is chosen
abbrev pub view_by : Chosen → View
view_by o = record { style = style_of o.json o.full o.secrets; only = o.only; except = o.except; colored = o.colored; slower = o.slower }

-- what the code's options come to
abbrev pub chosen_of : {A : Type 0} → code.Options A → Chosen
chosen_of options = record {
  json = options.json;
  full = options.full;
  secrets = options.secrets;
  resume = options.resume;
  replicating = options.replicating;
  only = map (λ (name : Bor (List ℕ)). name.now) options.only.items;
  except = map (λ (name : Bor (List ℕ)). name.now) options.except.items;
  colored = options.colored;
  kinds = options.kinds.items;
  slower = options.slower;
  marking = options.marking;
  files = map (λ (name : Bor (List ℕ)). name.now) options.files.items;
}
