-- The listing of both sides of a connection, a chunk at a time.
use Rattle.std.specs.Prelude.{◌≡◌, ℕ, ◌+◌, ◌-◌, nat_lt, Bool, true, false, not, ◌==◌, ◌||◌, if◌then◌else◌, List, [], ◌∷◌, ◌++◌, drop, length, Result, Ok, Err, Option, bytes_eq, codes}
use Rattle.pgtrace_session.specs.Common.{Error, Message, Authentication, AuthenticationCleartextPassword, AuthenticationMd5Password, AuthenticationSasl, AuthenticationSaslContinue, AuthenticationGss, AuthenticationSspi, AuthenticationGssContinue, ClientMessage, SslRequest, GssEncRequest, ClientError, PasswordKind, Length, Tag, Name, closing, followed, opening, Style, LineOf, name_in, place_behind, last_line, Side, Ends, Beginning, Messages, Replicating, Encrypted, View, shown, Sender, Client, Server, Start, Dated, Pending, Marking, Noted, Told, Answer, Uncounted}
use Rattle.pgp_frontend_read.specs.declared.message.PasswordKind.TheVariants.{Password, Initial, Response}
pub use Rattle.pgtrace_lines.specs.Rows.{Rows, NoLines, OneLine}
use Rattle.pgtrace_lines.specs.Sides as side
use Rattle.pgtrace_lines.specs.declared.side.Phase.{Phase}
use Rattle.pgtrace_session.specs.declared.expectation.Encryption.{Encryption}
use Rattle.pgtrace_session.specs.declared.expectation.Encryption.TheVariants.{Tls, Gss}
use Rattle.pgtrace_session.specs.declared.expectation.Noted.TheVariants.{Asks, Requests, Answers, Nothing}
use Rattle.pgtrace_session.specs.Recording.{Chunk}
use Rattle.pgtrace_session.specs.Marks.{ShowsTime, last_mark, mark, marked, started, word}
use Rattle.pgtrace_session.specs.Requests.{Numbers, at_time, first_numbers, summary_in, unnumbered}
use Rattle.pgtrace_session.specs.Summing.{placed_by}
use Rattle.pgtrace_session.specs.Tables.{ending_by}
use Rattle.pgtrace_session.specs.Typed.{Heard, Learns, Said, Sent, ShowsTyped, Unsaid, first_types, said_in}
use Rattle.pgtrace_session.specs.Types.{Types}

-- ---- what is known of both sides

-- What is known of either, the client's requests for encryption that the server hasn't answered, what is known of all requests, whether marks tell their
-- numbers, and what is known of the types of values; of these nothing where bytes are shown as they are, or once a message has no place.
pub record Known : Type 0 where
  pub client : Side
  pub server : Side
  pub requests : List Encryption
  pub numbers : Option Numbers
  pub marked : Bool
  pub types : Option Types

-- Requests are counted where marks tell their numbers, and where the types of values are looked for.
abbrev pub counts : Marking → Bool
counts marking = marking.numbered || not marking.raw

-- before the first byte of a connection
abbrev pub at_first : Marking → Known
at_first marking = record { client = side.Client false [] false; server = side.Server Beginning; requests = []; numbers = first_numbers (counts marking) marking.summed marking.folded; marked = marking.numbered; types = first_types marking.raw marking.named }

abbrev pub side_in : Sender → Known → Side
side_in Client known = known.client
side_in Server known = known.server

-- A client's CopyData have a standby's messages inside while the server's stream is one of replication.
abbrev pub is_replicating : Phase → Bool
is_replicating Beginning = false
is_replicating Messages = false
is_replicating Replicating = true
is_replicating Encrypted = false

abbrev pub replicates_in : Side → Bool
replicates_in (side.Server phase) = is_replicating phase
replicates_in (side.Client opened kinds replicating) = false

abbrev pub as_standby : Bool → Side → Side
as_standby replicating (side.Client opened kinds was) = side.Client opened kinds replicating
as_standby replicating (side.Server phase) = side.Server phase

abbrev pub with_side : Sender → Known → Side → Known
with_side Client known to = record { client = to; server = known.server; requests = known.requests; numbers = known.numbers; marked = known.marked; types = known.types }
with_side Server known to = record { client = as_standby (replicates_in to) known.client; server = to; requests = known.requests; numbers = known.numbers; marked = known.marked; types = known.types }

abbrev pub with_numbers : Option Numbers → Known → Known
with_numbers numbers known = record { client = known.client; server = known.server; requests = known.requests; numbers = numbers; marked = known.marked; types = known.types }

abbrev pub with_types : Option Types → Known → Known
with_types types known = record { client = known.client; server = known.server; requests = known.requests; numbers = known.numbers; marked = known.marked; types = types }

-- a chunk comes at this time
abbrev pub now_at : ℕ → Known → Known
now_at micros known = with_numbers (at_time micros known.numbers) known

-- the message of tag `p` that a server asks for
abbrev pub asks : Message → Noted
asks (Authentication AuthenticationCleartextPassword) = Asks Password
asks (Authentication (AuthenticationMd5Password salt)) = Asks Password
asks (Authentication (AuthenticationSasl mechanisms)) = Asks Initial
asks (Authentication (AuthenticationSaslContinue bytes)) = Asks Response
asks (Authentication AuthenticationGss) = Asks Response
asks (Authentication AuthenticationSspi) = Asks Response
asks (Authentication (AuthenticationGssContinue bytes)) = Asks Response
asks m = Nothing

abbrev pub asks_by : Result Message Error → Noted
asks_by (Ok m) = asks m
asks_by (Err e) = Nothing

-- the encryption that a client asks for
abbrev pub requests : ClientMessage → Noted
requests SslRequest = Requests Tls
requests GssEncRequest = Requests Gss
requests m = Nothing

abbrev pub requests_by : Result ClientMessage ClientError → Noted
requests_by (Ok m) = requests m
requests_by (Err e) = Nothing

-- what a frame says of those that are still to come, by what it is read as: an answer of one byte is nothing else
abbrev pub noted_by : Said → Noted
noted_by (Heard r) = asks_by r
noted_by (Sent r) = requests_by r
noted_by Unsaid = Answers

abbrev pub noted_in : (style : Style) (place : ℕ) (from : Side) (frame line : List ℕ) (to : Side) → LineOf style place from frame line to → Noted
noted_in style place from frame line to is = noted_by (said_in style place from frame line to is)

-- the client's next messages of tag `p` are of one kind more
abbrev pub with_kind : Side → PasswordKind → Side
with_kind (side.Client opened kinds replicating) kind = side.Client opened (kinds ++ kind ∷ []) replicating
with_kind (side.Server phase) kind = side.Server phase

-- what is known after it
abbrev pub note : Noted → Known → Known
note (Asks kind) known = record { client = with_kind known.client kind; server = known.server; requests = known.requests; numbers = known.numbers; marked = known.marked; types = known.types }
note (Requests encryption) known = record { client = known.client; server = known.server; requests = known.requests ++ encryption ∷ []; numbers = known.numbers; marked = known.marked; types = known.types }
note Answers known = record { client = known.client; server = known.server; requests = drop 1 known.requests; numbers = known.numbers; marked = known.marked; types = known.types }
note Nothing known = known

-- ---- answers of one byte

-- one that doesn't say to which request it belongs
abbrev pub either : List ℕ
either = codes "SSLResponse or GSSENCResponse"

-- the name of the answer to a request
abbrev pub answer_to : Encryption → List ℕ
answer_to Tls = codes "SSLResponse"
answer_to Gss = codes "GSSENCResponse"

-- such an answer has the name of the first request that isn't answered
abbrev pub called : List Encryption → List ℕ → List ℕ
called [] name = name
called (first ∷ more) name = if bytes_eq name either then answer_to first else name

-- and a line with it, which is that of a byte `N`
abbrev pub relined : Style → ℕ → List Encryption → (name line : List ℕ) → List ℕ
relined style place [] name line = line
relined style place (first ∷ more) name line =
    if bytes_eq name either then followed style (opening style place) (Length 1 ∷ Tag 78 ∷ Name true (answer_to first) ∷ []) ++ closing style ++ 10 ∷ [] else line

-- ---- lines with marks

-- how long after its request a message came
abbrev pub waited : Told → ℕ
waited (Answer number sent now) = now - sent
waited told = 0

-- what stands in the listing of a line that has this name, with a mark that says this of requests, where these requests for encryption aren't answered: nothing
-- where it came earlier than is asked for
abbrev pub text_of : View → (mark : List ℕ) → Told → (place : ℕ) → List Encryption → (name line : List ℕ) → List ℕ
text_of view mark told place waiting name line =
    if nat_lt (waited told) view.slower then [] else shown view (called waiting name) (marked view.style.form (mark ++ word view.style.form told) (relined view.style place waiting name line))

-- what a mark says of requests, where it tells their numbers
abbrev pub told_by : (marked : Bool) → Told → Told
told_by marked told = if marked then told else Uncounted

-- A frame that this side sent has the line that a listing of that side has, with values as texts where their types are known, with the mark, and with what
-- that says of requests where it tells their numbers; and what is known after it.
pub record ListsFrame (view : View) (mark : List ℕ) (sender : Sender) (place : ℕ) (here : Known) (frame text : List ℕ) (to : Known) : Type 0 where
  pub line : List ℕ
  pub after : Side
  pub told : Told
  pub numbers : Option Numbers
  pub types : Option Types
  pub typed : List ℕ
  pub reported : LineOf view.style place (side_in sender here) frame line after
  pub placed : placed_by frame (said_in view.style place (side_in sender here) frame line after reported) here.numbers ≡ (told, numbers)
  pub learns : Learns told (said_in view.style place (side_in sender here) frame line after reported) here.types types
  pub shows : ShowsTyped view.style place (length frame) told (said_in view.style place (side_in sender here) frame line after reported) types line typed
  pub is : text ≡ text_of view mark (told_by here.marked told) place here.requests (name_in view.style place (side_in sender here) frame line after reported) typed
  pub behind : to ≡ note (noted_in view.style place (side_in sender here) frame line after reported) (with_types types (with_numbers numbers (with_side sender here after)))

-- These bytes, after so many others, are complete frames of this side, and each has its line, in order.
abbrev pub ListsFrames : View → (mark : List ℕ) → Sender → (start : ℕ) → Known → (bytes lines : List ℕ) → Known → Type 0
ListsFrames view mark sender start from = Rows (ListsFrame view mark sender) start from

-- ---- chunk by chunk

-- Of one side: how many bytes were listed, those that weren't, and whether nothing says where a frame begins in them.
pub record Half : Type 0 where
  pub passed : ℕ
  pub rest : List ℕ
  pub stopped : Bool

-- Of both: what is known, and what times are counted from.
pub record Talk : Type 0 where
  pub known : Known
  pub client : Half
  pub server : Half
  pub start : Start

abbrev pub nothing : Half
nothing = record { passed = 0; rest = []; stopped = false }

-- times are dates, or they are counted from the first chunk
abbrev pub first_start : (absolute : Bool) → Start
first_start absolute = if absolute then Dated else Pending

-- before the first chunk
abbrev pub begins : Marking → Talk
begins marking = record { known = at_first marking; client = nothing; server = nothing; start = first_start marking.absolute }

abbrev pub half_in : Sender → Talk → Half
half_in Client talk = talk.client
half_in Server talk = talk.server

abbrev pub other : Sender → Sender
other Client = Server
other Server = Client

-- The frames of its side that are complete with a chunk have their lines, with the chunk's mark, and come at its time; of the other side nothing has come.
pub record ListsChunk (view : View) (before : Talk) (chunk : Chunk) (text : List ℕ) (after : Talk) : Type 0 where
  pub time : List ℕ
  pub shown : ShowsTime view.style.form (started before.start chunk.micros) chunk.micros time
  pub front : List ℕ
  pub whole : (half_in chunk.sender before).rest ++ chunk.bytes ≡ front ++ (half_in chunk.sender after).rest
  pub each : ListsFrames view (mark view.style.form chunk.sender time) chunk.sender (half_in chunk.sender before).passed (now_at chunk.micros before.known) front text after.known
  pub ending : Ends (side_in chunk.sender after.known) (half_in chunk.sender after).stopped (half_in chunk.sender after).rest
  pub passed : (half_in chunk.sender after).passed ≡ (half_in chunk.sender before).passed + length front
  pub same : half_in (other chunk.sender) after ≡ half_in (other chunk.sender) before
  pub start : after.start ≡ started before.start chunk.micros

-- These chunks have these lines.
pub data ListsChunks (view : View) (from : Talk) : List Chunk → List ℕ → Talk → Type 0 where
  NoChunkListed : ListsChunks view from [] [] from
  OneChunkListed : {chunks : List Chunk} {lines : List ℕ} {here to : Talk} (chunk : Chunk) (text : List ℕ) → ListsChunks view from chunks lines here
      → ListsChunk view here chunk text to → ListsChunks view from (chunks ++ chunk ∷ []) (lines ++ text) to

-- ---- what is left

-- the last line of a side, where so many bytes of it are left, with a mark that says this of requests
abbrev pub last_of : View → Start → Told → Sender → (stopped : Bool) → ℕ → List ℕ
last_of view start told sender stopped n = if n == 0 then [] else marked view.style.form (last_mark view.style.form start sender ++ word view.style.form told) (last_line view stopped n)

abbrev pub left : Half → ℕ
left half = place_behind (length half.rest)

-- the last lines of both sides, or the table of a summary in their place
abbrev pub last_lines : View → Talk → List ℕ
last_lines view talk = ending_by view (summary_in talk.known.numbers)
    (last_of view talk.start (told_by talk.known.marked (unnumbered talk.known.numbers)) Client talk.client.stopped (left talk.client) ++ last_of view talk.start (told_by talk.known.marked (unnumbered talk.known.numbers)) Server talk.server.stopped (left talk.server))
