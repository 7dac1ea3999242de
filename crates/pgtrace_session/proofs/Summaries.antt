-- Where a summary is asked for, the table is all that is written.
use Rattle.pgtrace_session.proofs.Common.{◌≡◌, ℕ, ◌+◌, Bool, true, false, List, [], ◌∷◌, ◌++◌, length, Option, Some, None, Result, Ok, Err, refl, sym, ap, ◌∙◌, inl, inr, nat_lt, ◌==◌, ◌||◌, ◌&&◌, is_some, not, if◌then◌else◌, bytes_eq, codes, Error, Message, Authentication, AuthenticationOk, ClientMessage, SaslResponse, ClientError, Style, State, client_name, LineOf, client_frame_name, name_in, place_behind, server_name, Side, is_reported, View, color_of, has_word, is_listed, painted, shown, Beginning, Messages, Replicating, Encrypted, Sender, End, Marking, Role, Told, Known, ListsChunks, ListsFrame, ListsFrames, NoChunkListed, NoLines, OneChunkListed, OneLine, Talk, answer_to, begins, called, counts, either, half_in, last_lines, last_of, left, noted_in, now_at, relined, side_in, told_by, waited, with_numbers, with_side, with_types, mark, marked, word, Chunk, Numbers, at_time, first_numbers, role_in, summary_in, tell, unnumbered, IsListing, summarized, places, said_in, sent_in, summed_so, ending_by, table, false≢true}
use Rattle.pgtrace_lines.specs.Names.{name_of}
use Rattle.pgtrace_lines.specs.Sides.{Server, Client}
use Rattle.pgtrace_session.specs.declared.chunk.Sender.TheVariants as sides
use Rattle.pgtrace_session.specs.declared.expectation.Encryption.{Encryption}
use Rattle.pgtrace_session.specs.declared.expectation.Encryption.TheVariants.{Tls, Gss}
use Rattle.pgtrace_session.specs.declared.role.Role.TheVariants as role
use Rattle.pgtrace_session.proofs.Turns.{note_kept}

-- ---- each frame has a name

abbrev IsNamed : List ℕ → Type 0
IsNamed name = bytes_eq [] name ≡ false

answer_some : (a b : Bool) → IsNamed (if a then codes "SSLResponse" else if b then codes "GSSENCResponse" else codes "SSLResponse or GSSENCResponse")
answer_some true b = refl
answer_some false true = refl
answer_some false false = refl

message_some : (m : Message) → IsNamed (name_of m)
message_some (Authentication AuthenticationOk) = refl
message_some m = refl

unread_some : (a b : Bool) → IsNamed (if a then codes "FunctionCallResponse" else if b then codes "CopyBothResponse" else codes "fault")
unread_some true b = refl
unread_some false true = refl
unread_some false false = refl

server_some : (tag : ℕ) (r : Result Message Error) → IsNamed (server_name tag r)
server_some tag (Ok m) = message_some m
server_some tag (Err e) = unread_some (tag == 86) (tag == 87)

client_some : (reported : Bool) (m : ClientMessage) → IsNamed (client_name reported m)
client_some true (SaslResponse r) = refl
client_some false (SaslResponse r) = refl
client_some reported m = refl

frame_some : (reported : Bool) (r : Result ClientMessage ClientError) → IsNamed (client_frame_name reported r)
frame_some reported (Ok m) = client_some reported m
frame_some reported (Err e) = refl

line_some : (style : Style) (place : ℕ) (from : Side) (frame line : List ℕ) (to : Side) (r : LineOf style place from frame line to) → IsNamed (name_in style place from frame line to r)
line_some style place (Server Beginning) frame line to (inl answer) = answer_some (answer.reported.byte == 83) (answer.reported.byte == 71)
line_some style place (Server Beginning) frame line to (inr first) = server_some first.reported.first.tag first.reported.reported.result
line_some style place (Server Messages) frame line to is = server_some is.0.first.tag is.0.reported.result
line_some style place (Server Replicating) frame line to is = server_some is.0.first.tag is.0.reported.result
line_some style place (Server Encrypted) frame line to is = absurd is
line_some style place (Client opened kinds replicating) frame line to is = frame_some (is_reported kinds) is.reported.result

pick : (b : Bool) (first : Encryption) (name : List ℕ) → IsNamed name → IsNamed (if b then answer_to first else name)
pick true Tls name e = refl
pick true Gss name e = refl
pick false first name e = e

called_some : (waiting : List Encryption) (name : List ℕ) → IsNamed name → IsNamed (called waiting name)
called_some [] name e = e
called_some (first ∷ more) name e = pick (bytes_eq name either) first name e

-- ---- none of their lines is written

shown_none : (view : View) (name line : List ℕ) → IsNamed name → shown (summarized true view) name line ≡ []
shown_none view name line e =
    let off : is_listed (summarized true view) name ≡ false = ap (λ b. (b || false) && not (has_word view.except name)) e in
    ap (λ b. if b then painted (color_of (summarized true view) name) line else []) off

none_else : {l : List ℕ} (b : Bool) → l ≡ [] → (if b then [] else l) ≡ []
none_else true e = refl
none_else false e = e

frame_none : (view : View) (m : List ℕ) (who : Sender) (place : ℕ) (here to : Known) (frame text : List ℕ) → ListsFrame (summarized true view) m who place here frame text to → text ≡ []
frame_none view m who place here to frame text l =
    let name = name_in view.style place (side_in who here) frame l.line l.after l.reported in
    let told = told_by here.marked l.told in
    l.is ∙ none_else (nat_lt (waited told) view.slower) (shown_none view (called here.requests name) (marked view.style.form (m ++ word view.style.form told) (relined view.style place here.requests name l.typed))
    (called_some here.requests name (line_some view.style place (side_in who here) frame l.line l.after l.reported)))

frames_none : (view : View) (m : List ℕ) (who : Sender) (place : ℕ) (from : Known) (bytes lines : List ℕ) (to : Known) → ListsFrames (summarized true view) m who place from bytes lines to → lines ≡ []
frames_none view m who place from [] [] _ NoLines = refl
frames_none view m who place from _ _ to (OneLine {bytes = bytes} {lines = lines} {here = here} frame text before one) =
    ap (λ l. l ++ text) (frames_none view m who place from bytes lines here before) ∙ frame_none view m who (place_behind (place + length bytes)) here to frame text one

pub chunks_none : (view : View) (from : Talk) (chunks : List Chunk) (lines : List ℕ) (to : Talk) → ListsChunks (summarized true view) from chunks lines to → lines ≡ []
chunks_none view from [] [] _ NoChunkListed = refl
chunks_none view from _ _ to (OneChunkListed {chunks = chunks} {lines = lines} {here = here} chunk text before one) =
    ap (λ l. l ++ text) (chunks_none view from chunks lines here before)
    ∙ frames_none view (mark view.style.form chunk.sender one.time) chunk.sender (half_in chunk.sender here).passed (now_at chunk.micros here.known) one.front text to.known one.each

-- ---- the summary stays

abbrev is_summed : Option Numbers → Bool
is_summed None = false
is_summed (Some n) = is_some n.summary

time_kept : (micros : ℕ) (n : Option Numbers) → is_summed (at_time micros n) ≡ is_summed n
time_kept micros None = refl
time_kept micros (Some n) = refl

told_kept : (r : Role) (n : Numbers) → (tell r n).1.summary ≡ n.summary
told_kept role.Fault n = refl
told_kept r n = refl

so_kept : (told : Told) (r : Role) (m : Option ClientMessage) (o : Option State) → is_some (summed_so told r m o) ≡ is_some o
so_kept told r m None = refl
so_kept told r m (Some s) = refl

place_kept : (r : Role) (m : Option ClientMessage) (n : Option Numbers) → is_summed (places r m n).1 ≡ is_summed n
place_kept r m None = refl
place_kept r m (Some n) = so_kept (tell r n).0 r m (tell r n).1.summary ∙ ap is_some (told_kept r n)

frame_kept : (view : View) (m : List ℕ) (who : Sender) (place : ℕ) (here to : Known) (frame text : List ℕ) → ListsFrame view m who place here frame text to → is_summed to.numbers ≡ is_summed here.numbers
frame_kept view m who place here to frame text l =
    let from = side_in who here in
    ap (λ (k : Known). is_summed k.numbers) l.behind ∙ ap is_summed (note_kept (noted_in view.style place from frame l.line l.after l.reported) (with_types l.types (with_numbers l.numbers (with_side who here l.after))))
    ∙ ap (λ (x : Told × Option Numbers). is_summed x.1) (sym l.placed) ∙ place_kept (role_in view.style place from frame l.line l.after l.reported) (sent_in (said_in view.style place from frame l.line l.after l.reported)) here.numbers

frames_kept : (view : View) (m : List ℕ) (who : Sender) (place : ℕ) (from : Known) (bytes lines : List ℕ) (to : Known) → ListsFrames view m who place from bytes lines to → is_summed to.numbers ≡ is_summed from.numbers
frames_kept view m who place from [] [] _ NoLines = refl
frames_kept view m who place from _ _ to (OneLine {bytes = bytes} {lines = lines} {here = here} frame text before one) =
    frame_kept view m who (place_behind (place + length bytes)) here to frame text one ∙ frames_kept view m who place from bytes lines here before

chunks_kept : (view : View) (from : Talk) (chunks : List Chunk) (lines : List ℕ) (to : Talk) → ListsChunks view from chunks lines to → is_summed to.known.numbers ≡ is_summed from.known.numbers
chunks_kept view from [] [] _ NoChunkListed = refl
chunks_kept view from _ _ to (OneChunkListed {chunks = chunks} {lines = lines} {here = here} chunk text before one) =
    frames_kept view (mark view.style.form chunk.sender one.time) chunk.sender (half_in chunk.sender here).passed (now_at chunk.micros here.known) one.front text to.known one.each
    ∙ time_kept chunk.micros here.known.numbers ∙ chunks_kept view from chunks lines here before

-- ---- the table

abbrev IsTable : View → (lines : List ℕ) → Option State → Type 0
IsTable view lines o = (s : State) × (o ≡ Some s) × (ending_by view o lines ≡ table view s.tallies)

some_table : (view : View) (lines : List ℕ) (o : Option State) → is_some o ≡ true → IsTable view lines o
some_table view lines None e = absurd (false≢true e)
some_table view lines (Some s) e = (s, refl, refl)

table_in : (view : View) (lines : List ℕ) (n : Option Numbers) → is_summed n ≡ true → IsTable view lines (summary_in n)
table_in view lines None e = absurd (false≢true e)
table_in view lines (Some n) e = some_table view lines n.summary e

begins_summed : (numbered sums folds : Bool) → numbered ≡ true → sums ≡ true → is_summed (first_numbers numbered sums folds) ≡ true
begins_summed true true folds e f = refl
begins_summed true false folds e f = f
begins_summed false sums folds e f = e

counted : (numbered typed : Bool) → numbered ≡ true → (numbered || typed) ≡ true
counted true typed e = refl
counted false typed e = absurd (false≢true e)

pub table_alone : (view : View) (marking : Marking) (bytes output : List ℕ) (end : End) → marking.numbered ≡ true → marking.summed ≡ true → (l : IsListing (summarized true view) marking bytes end output)
    → (s : State) × (summary_in l.talk.known.numbers ≡ Some s) × (output ≡ table (summarized true view) s.tallies)
table_alone view marking bytes output end numbered sums l =
    let all : is_summed l.talk.known.numbers ≡ true = chunks_kept (summarized true view) (begins marking) l.each.chunks l.lines l.talk l.each.each ∙ begins_summed (counts marking) marking.summed marking.folded (counted marking.numbered (not marking.raw) numbered) sums in
    let told = told_by l.talk.known.marked (unnumbered l.talk.known.numbers) in
    let last = last_of (summarized true view) l.talk.start told sides.Client l.talk.client.stopped (left l.talk.client) ++ last_of (summarized true view) l.talk.start told sides.Server l.talk.server.stopped (left l.talk.server) in
    let t = table_in (summarized true view) last l.talk.known.numbers all in
    (t.0, t.1, l.text ∙ ap (λ x. x ++ last_lines (summarized true view) l.talk) (chunks_none view (begins marking) l.each.chunks l.lines l.talk l.each.each) ∙ t.2)
