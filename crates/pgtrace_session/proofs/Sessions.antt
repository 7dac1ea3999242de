-- The listing of a recording, a chunk and a piece at a time.
use Rattle.pgtrace_session.proofs.Common.{◌≡◌, ◌≢◌, ◌⊎◌, ℕ, ◌+◌, ◌-◌, ◌≤◌, Bool, true, false, List, [], ◌∷◌, ◌++◌, length, drop, Option, Result, Ok, Err, refl, sym, ap, subst, ◌∙◌, arith, inl, inr, append_assoc, length-append, IfErr, IfOk, OnErr, OnOk, Appends, Consumes, IsAtEnd, flat_map, AllByRecursion, Appends-nil, Appends-trans, Consumes-nil, Consumes-trans, Consumes-kept, append-nil, drop-drop, drop-append_seam, flat_map-cons, flat_map-append, Streams, AppendsFront, View, Start, nothing_ends, none_taken, all_taken, more_taken, Client, Server, End, Marking, Known, NoChunkListed, OneChunkListed, Talk, at_first, begins, first_start, last_lines, last_of, left, told_by, Follows, ListsAllChunks, ListsPiece, ListsSome, Stays, Tracks, TracksTo, held_first, held_last, summary_in, unnumbered, ending_by, Chunk, EndsBy, IsChunk, IsPartial, Records, beginning, chunk_bytes, complaint_of, magic, Awaits, CutsLines, CutsListing, IsCutShort, HasLines, IsReadTo, IsReady, WasListed, ListsChunkTo, HeldTalk, Keeps, TakesChunk, TakesPart, chunk_of, end_of, hint_of}
use Rattle.std.specs.Io.KnownBytes.{Keeps as Same}
use Rattle.pgtrace_session.specs.declared.chunk.Chunk as code
use Rattle.pgtrace_session.specs.declared.chunk.Part.TheVariants as part
use Rattle.pgtrace_session.specs.declared.outcome.Ended.{Ended}
use Rattle.pgtrace_session.specs.Pieces.{held_said}
use Rattle.pgtrace_session.specs.Recording.{status_of}
use Rattle.pgtrace_session.specs.Common.{Caused, Fault, Memory, NoRead, Read, Write}
use Rattle.pgtrace_session.specs.Session.{BreaksOff, said_of}
use Rattle.pgtrace_session.specs.Several.{ListsRecording}
use Rattle.pgtrace_session.proofs.Chunks.{magic_short}

-- ---- a chunk at a time

each_more : (chunks : List Chunk) (chunk : Chunk) → AllByRecursion IsChunk chunks → IsChunk chunk → AllByRecursion IsChunk (chunks ++ chunk ∷ [])
each_more [] chunk each is = (is, tt)
each_more (first ∷ more) chunk each is = (each.0, each_more more chunk each.1 is)

flat_more : (chunks : List Chunk) (chunk : Chunk) → flat_map chunk_bytes (chunks ++ chunk ∷ []) ≡ flat_map chunk_bytes chunks ++ chunk_bytes chunk
flat_more chunks chunk = flat_map-append chunk_bytes chunks (chunk ∷ []) ∙ ap (λ l. flat_map chunk_bytes chunks ++ l) (flat_map-cons chunk_bytes chunk [] ∙ append-nil (chunk_bytes chunk))

opened_not : (true ≡ false) → (chunks : List Chunk) → chunks ≡ []
opened_not e chunks = absurd cc

-- the beginning was read
begun_records : (bytes : List ℕ) (chunks : List Chunk) (rest behind : List ℕ) → Records bytes false chunks rest → rest ≡ magic ++ behind → Records bytes true chunks behind
begun_records bytes chunks rest behind r is = record {
  whole = r.whole ∙ ap (λ l. l ++ rest) (ap (λ cs. flat_map chunk_bytes cs) (r.none refl)) ∙ is ∙ ap (λ l. l ++ behind) (sym (append-nil magic)) ∙ ap (λ cs. magic ++ flat_map chunk_bytes cs ++ behind) (sym (r.none refl));
  each = r.each;
  none = λ e. opened_not e chunks;
}

-- and one chunk more
more_records : (bytes : List ℕ) (chunks : List Chunk) (chunk : Chunk) (rest behind : List ℕ) → Records bytes true chunks rest → TakesChunk chunk rest behind → Records bytes true (chunks ++ chunk ∷ []) behind
more_records bytes chunks chunk rest behind r t = record {
  whole = r.whole ∙ ap (λ l. magic ++ flat_map chunk_bytes chunks ++ l) t.whole ∙ sym (append_assoc (magic ++ flat_map chunk_bytes chunks) (chunk_bytes chunk) behind)
      ∙ ap (λ l. l ++ behind) (append_assoc magic (flat_map chunk_bytes chunks) (chunk_bytes chunk) ∙ ap (λ l. magic ++ l) (sym (flat_more chunks chunk)));
  each = each_more chunks chunk r.each t.is;
  none = λ e. opened_not e (chunks ++ chunk ∷ []);
}

pub begun : (view : View) (marking : Marking) (bytes lines : List ℕ) (held : HeldTalk) (rest behind : List ℕ) → Tracks view marking bytes lines false held rest → rest ≡ magic ++ behind → Tracks view marking bytes lines true held behind
begun view marking bytes lines held rest behind t is = record {
  talk = t.talk;
  each = record { chunks = t.each.chunks; records = begun_records bytes t.each.chunks rest behind t.each.records is; each = t.each.each };
  keeps = t.keeps;
}

pub listed_more : (view : View) (marking : Marking) (bytes lines : List ℕ) (held next : HeldTalk) (chunk : Chunk) (rest behind old new : List ℕ) (t : Tracks view marking bytes lines true held rest) → TakesChunk chunk rest behind
    → ListsChunkTo view t.talk chunk next old new → TracksTo view marking bytes lines true next behind old new
listed_more view marking bytes lines held next chunk rest behind old new t takes lists = record {
  added = lists.text;
  tracks = record {
    talk = lists.after;
    each = record {
      chunks = t.each.chunks ++ chunk ∷ [];
      records = more_records bytes t.each.chunks chunk rest behind t.each.records takes;
      each = OneChunkListed chunk lists.text t.each.each lists.lists;
    };
    keeps = lists.keeps;
  };
  text = lists.grown;
}

-- ---- chunk after chunk

-- what those so far come to, whatever came before
abbrev pub Lists : View → (begun opened : Bool) (held now : HeldTalk) (bytes rest old new : List ℕ) → Type 0
Lists view begun opened held now bytes rest old new = (marking : Marking) (received lines : List ℕ) → Tracks view marking received lines begun held bytes → TracksTo view marking received lines opened now rest old new

pub nothing_listed : (view : View) (begun : Bool) (held : HeldTalk) (bytes old : List ℕ) → Lists view begun begun held held bytes bytes old old
nothing_listed view begun held bytes old marking received lines t = record {
  added = [];
  tracks = subst (λ l. Tracks view marking received l begun held bytes) (sym (append-nil lines)) t;
  text = sym (append-nil old);
}

pub and_begun : (view : View) (was opened : Bool) (held now : HeldTalk) (bytes rest behind old new : List ℕ) → Lists view was opened held now bytes rest old new → opened ≡ false → rest ≡ magic ++ behind → Lists view was true held now bytes behind old new
and_begun view was opened held now bytes rest behind old new so_far fresh is marking received lines t =
    let to = so_far marking received lines t in
    record {
      added = to.added;
      tracks = begun view marking received (lines ++ to.added) now rest behind (subst (λ b. Tracks view marking received (lines ++ to.added) b now rest) fresh to.tracks) is;
      text = to.text;
    }

pub and_listed : (view : View) (was opened : Bool) (held now next : HeldTalk) (chunk : Chunk) (bytes rest behind old mid new : List ℕ) → Lists view was opened held now bytes rest old mid → opened ≡ true → TakesChunk chunk rest behind
    → ((before : Talk) → Keeps now before → ListsChunkTo view before chunk next mid new) → Lists view was opened held next bytes behind old new
and_listed view was opened held now next chunk bytes rest behind old mid new so_far opens takes lists marking received lines t =
    let to = so_far marking received lines t in
    let here = subst (λ b. Tracks view marking received (lines ++ to.added) b now rest) opens to.tracks in
    let more = listed_more view marking received (lines ++ to.added) now next chunk rest behind mid new here takes (lists here.talk here.keeps) in
    record {
      added = to.added ++ more.added;
      tracks = subst (λ l. Tracks view marking received l opened next behind) (append_assoc lines to.added more.added) (subst (λ b. Tracks view marking received (lines ++ to.added ++ more.added) b next behind) (sym opens) more.tracks);
      text = more.text ∙ ap (λ l. l ++ more.added) to.text ∙ append_assoc old to.added more.added;
    }

-- ---- what stands first

pub takes_magic : (opened : Bool) (rest behind : List ℕ) → TakesPart opened rest part.Magic behind → (opened ≡ false) × (rest ≡ magic ++ behind)
takes_magic false rest behind t = (refl, t)
takes_magic true rest behind t = absurd t

pub takes_chunk : (opened : Bool) (rest behind : List ℕ) (c : code.Chunk) → TakesPart opened rest (part.Chunk c) behind → (opened ≡ true) × TakesChunk (chunk_of c) rest behind
takes_chunk false rest behind c t = absurd t
takes_chunk true rest behind c t = (refl, t)

pub waits : (opened : Bool) (rest behind : List ℕ) → TakesPart opened rest part.Waits behind → Stays opened false rest
waits false rest behind t = t.1
waits true rest behind t = t.1

pub stops : (opened : Bool) (rest behind : List ℕ) → TakesPart opened rest part.Stops behind → Stays opened true rest
stops false rest behind t = (t.1, t.2)
stops true rest behind t = t.1

-- the rest stands at the end of the bytes
pub ends_bytes : (bytes rest front behind : List ℕ) → rest ≡ front ++ behind → rest ≡ drop (length bytes - length rest) bytes → length rest ≤ length bytes → (behind ≡ drop (length bytes - length behind) bytes) × (length behind ≤ length bytes)
ends_bytes bytes rest front behind is at le =
    let long : length rest ≡ length front + length behind = ap length is ∙ length-append front behind in
    let sum : (length bytes - length rest) + length front ≡ length bytes - length behind = omega (arith, long, le) in (
      sym (drop-append_seam front behind) ∙ ap (drop (length front)) (sym is ∙ at) ∙ drop-drop (length front) (length bytes - length rest) bytes ∙ ap (λ n. drop n bytes) sum,
      omega (arith, long, le),
    )

pub all_bytes : (bytes : List ℕ) → (bytes ≡ drop (length bytes - length bytes) bytes) × (length bytes ≤ length bytes)
all_bytes bytes = let none : 0 ≡ length bytes - length bytes = omega arith in (ap (λ n. drop n bytes) none, omega arith)

-- all that are whole were listed
pub all_listed : (view : View) (was opened stopped : Bool) (held now : HeldTalk) (bytes rest behind old new : List ℕ) → Lists view was opened held now bytes rest old new → Stays opened stopped rest → rest ≡ behind
    → (marking : Marking) (received lines : List ℕ) → Tracks view marking received lines was held bytes → ListsAllChunks view marking received lines opened stopped now behind old new
all_listed view was opened stopped held now bytes rest behind old new so_far stays same marking received lines t =
    subst (λ l. ListsAllChunks view marking received lines opened stopped now l old new) same (record { to = so_far marking received lines t; stays = stays })

-- ---- a piece at a time

pub lines_more : (view : View) (marking : Marking) (bytes piece : List ℕ) (opened : Bool) (rest lines : List ℕ) (talk : Talk) → HasLines view marking bytes opened rest lines talk → HasLines view marking (bytes ++ piece) opened (rest ++ piece) lines talk
lines_more view marking bytes piece opened rest lines talk h = record {
  chunks = h.chunks;
  records = record {
    whole = ap (λ l. l ++ piece) h.records.whole ∙ append_assoc (beginning opened ++ flat_map chunk_bytes h.chunks) rest piece;
    each = h.records.each;
    none = h.records.none;
  };
  each = h.each;
}

received : (view : View) (marking : Marking) (bytes lines : List ℕ) (opened : Bool) (held : HeldTalk) (rest piece : List ℕ) → Tracks view marking bytes lines opened held rest → Tracks view marking (bytes ++ piece) lines opened held (rest ++ piece)
received view marking bytes lines opened held rest piece t = record { talk = t.talk; each = lines_more view marking bytes piece opened rest lines t.talk t.each; keeps = t.keeps }

-- what a call listed of a slice of the bytes that are kept
pub all_there : (view : View) (opened now stopped : Bool) (held next : HeldTalk) (slice items behind before text : List ℕ) (n : ℕ) → slice ≡ items → before ≡ [] → behind ≡ drop n items
    → ((marking : Marking) (received lines : List ℕ) → Tracks view marking received lines opened held slice → ListsAllChunks view marking received lines now stopped next (drop n slice) before text)
    → (marking : Marking) (received lines : List ℕ) → Tracks view marking received lines opened held items → ListsAllChunks view marking received lines now stopped next behind [] text
all_there view opened now stopped held next slice items behind before text n same empty cut all marking received lines t =
    subst (λ l. ListsAllChunks view marking received lines now stopped next l [] text) (sym cut)
    (subst (λ b. ListsAllChunks view marking received lines now stopped next (drop n items) b text) empty
    (subst (λ s. ListsAllChunks view marking received lines now stopped next (drop n s) before text) same
    (all marking received lines (subst (λ s. Tracks view marking received lines opened held s) (sym same) t))))

-- all that is whole with it was listed, and its lines were written
pub piece_listed : (view : View) (marking : Marking) (bytes lines piece : List ℕ) (opened now stopped : Bool) (held next : HeldTalk) (rest items behind text : List ℕ) (old new : Option (List ℕ)) → Tracks view marking bytes lines opened held rest → items ≡ rest ++ piece
    → ((received lines : List ℕ) → Tracks view marking received lines opened held items → ListsAllChunks view marking received lines now stopped next behind [] text) → Appends old new text
    → ListsPiece view marking (bytes ++ piece) lines now stopped next behind old new
piece_listed view marking bytes lines piece opened now stopped held next rest items behind text old new t grown all wrote =
    let here = subst (λ l. Tracks view marking (bytes ++ piece) lines opened held l) (sym grown) (received view marking bytes lines opened held rest piece t) in
    let done = all (bytes ++ piece) lines here in
    record { added = done.to.added; tracks = done.to.tracks; stays = done.stays; written = subst (Appends old new) done.to.text wrote }

pub piece_front : (view : View) (marking : Marking) (bytes lines piece : List ℕ) (opened now stopped : Bool) (held next : HeldTalk) (rest items behind text : List ℕ) (old new : Option (List ℕ)) → Tracks view marking bytes lines opened held rest → items ≡ rest ++ piece
    → ((received lines : List ℕ) → Tracks view marking received lines opened held items → ListsAllChunks view marking received lines now stopped next behind [] text) → AppendsFront old new text
    → ListsSome view marking (bytes ++ piece) lines old new
piece_front view marking bytes lines piece opened now stopped held next rest items behind text old new t grown all taken =
    let here = subst (λ l. Tracks view marking (bytes ++ piece) lines opened held l) (sym grown) (received view marking bytes lines opened held rest piece t) in
    let done = all (bytes ++ piece) lines here in
    record { begun = now; rest = behind; talk = done.to.tracks.talk; added = done.to.added; each = done.to.tracks.each; written = subst (AppendsFront old new) done.to.text taken }

-- or nothing of it
pub piece_lost : (view : View) (marking : Marking) (bytes lines piece : List ℕ) (opened : Bool) (held : HeldTalk) (rest : List ℕ) (old : Option (List ℕ)) → Tracks view marking bytes lines opened held rest → ListsSome view marking (bytes ++ piece) lines old old
piece_lost view marking bytes lines piece opened held rest old t =
    let here = received view marking bytes lines opened held rest piece t in
    record {
      begun = opened;
      rest = rest ++ piece;
      talk = here.talk;
      added = [];
      each = subst (λ l. HasLines view marking (bytes ++ piece) opened (rest ++ piece) l here.talk) (sym (append-nil lines)) here.each;
      written = none_taken old [];
    }

-- ---- the whole recording

nothing_kept : (marking : Marking) → Keeps (held_first marking) (begins marking)
nothing_kept marking = record {
  known = refl;
  client = record { ending = nothing_ends (at_first marking).client; stopped = refl; count = refl; place = refl; bytes = λ e. refl };
  server = record { ending = nothing_ends (at_first marking).server; stopped = refl; count = refl; place = refl; bytes = λ e. refl };
  start = refl;
}

no_magic : (rest more : List ℕ) → rest ≡ [] → rest ≢ magic ++ more
no_magic rest more none = magic_short rest more (omega (arith, ap length none))

-- before the first of its bytes
none_listed : (view : View) (marking : Marking) (opened : Bool) (held : HeldTalk) (rest : List ℕ) → opened ≡ false → held ≡ held_first marking → rest ≡ [] → Tracks view marking [] [] opened held rest
none_listed view marking opened held rest fresh first none = record {
  talk = begins marking;
  each = record { chunks = []; records = record { whole = sym none ∙ ap (λ b. beginning b ++ [] ++ rest) (sym fresh); each = tt; none = λ e. refl }; each = NoChunkListed };
  keeps = subst (λ h. Keeps h (begins marking)) (sym first) (nothing_kept marking);
}

pub follows_start : (view : View) (marking : Marking) (s : Streams) (opened : Bool) (held : HeldTalk) (rest : List ℕ) → opened ≡ false → held ≡ held_first marking → rest ≡ [] → Follows view marking s s opened false held rest
follows_start view marking s opened held rest fresh first none = record {
  bytes = [];
  lines = [];
  received = Consumes-nil s.input;
  tracks = none_listed view marking opened held rest fresh first none;
  stays = subst (λ b. Stays b false rest) (sym fresh) (λ more. no_magic rest more none);
  written = Appends-nil s.output;
}

-- times are counted so
pub first_held : (marking : Marking) (held : HeldTalk) → held ≡ held_first (record marking { absolute = false }) → record { known = held.known; client = held.client; server = held.server; start = first_start marking.absolute } ≡ held_first marking
first_held marking held e = ap (λ (h : HeldTalk). record { known = h.known; client = h.client; server = h.server; start = first_start marking.absolute }) e

pub follows_same : (view : View) (marking : Marking) (before after : Streams) (opened : Bool) (held : HeldTalk) (rest : List ℕ) (next : Option (List ℕ)) → Follows view marking before after opened false held rest → Same after.input next
    → Follows view marking before (record { input = next; output = after.output }) opened false held rest
follows_same view marking before after opened held rest next f kept =
    record { bytes = f.bytes; lines = f.lines; received = Consumes-kept before.input after.input next f.bytes f.received kept; tracks = f.tracks; stays = f.stays; written = f.written }

-- nothing more came
pub follows_end : (view : View) (marking : Marking) (before after : Streams) (opened : Bool) (held : HeldTalk) (rest : List ℕ) (next : Option (List ℕ)) → Follows view marking before after opened false held rest → Consumes after.input next []
    → Follows view marking before (record { input = next; output = after.output }) opened false held rest
follows_end view marking before after opened held rest next f none = record {
  bytes = f.bytes;
  lines = f.lines;
  received = subst (Consumes before.input next) (append-nil f.bytes) (Consumes-trans before.input after.input next f.bytes [] f.received none);
  tracks = f.tracks;
  stays = f.stays;
  written = f.written;
}

pub follows_piece : (view : View) (marking : Marking) (before after : Streams) (opened now stopped : Bool) (held new : HeldTalk) (rest behind piece : List ℕ) (next output : Option (List ℕ)) (f : Follows view marking before after opened false held rest) → Consumes after.input next piece
    → ListsPiece view marking (f.bytes ++ piece) f.lines now stopped new behind after.output output → Follows view marking before (record { input = next; output = output }) now stopped new behind
follows_piece view marking before after opened now stopped held new rest behind piece next output f came one = record {
  bytes = f.bytes ++ piece;
  lines = f.lines ++ one.added;
  received = Consumes-trans before.input after.input next f.bytes piece f.received came;
  tracks = one.tracks;
  stays = one.stays;
  written = Appends-trans before.output after.output output f.lines one.added f.written one.written;
}

awaits : (opened : Bool) (rest : List ℕ) → Stays opened false rest → Awaits opened rest
awaits true rest s = s
awaits false rest s = s

-- reading failed
pub was_listed : (view : View) (marking : Marking) (before after : Streams) (opened : Bool) (held : HeldTalk) (rest : List ℕ) → Follows view marking before after opened false held rest → WasListed view marking before after
was_listed view marking before after opened held rest f =
    record { bytes = f.bytes; begun = opened; rest = rest; lines = f.lines; talk = f.tracks.talk; received = f.received; each = f.tracks.each; waits = awaits opened rest f.stays; written = f.written }

pub ready : {R W : Type 0} (remaining : R → Option (List ℕ)) (contents : W → Option (List ℕ)) (Passed : W → Type 0) (view : View) (marking : Marking) (reader now : R) (writer out : W) (opened : Bool) (held : HeldTalk) (rest : List ℕ)
    → Follows view marking (record { input = remaining reader; output = contents writer }) (record { input = remaining now; output = contents out }) opened false held rest → Same (contents writer) (contents out) ⊎ Passed out → IsReady remaining contents Passed view marking reader writer now
ready remaining contents Passed view marking reader now writer out opened held rest f p =
    record { out = out; listed = was_listed view marking (record { input = remaining reader; output = contents writer }) (record { input = remaining now; output = contents out }) opened held rest f; passed = p }

-- listed in part

pub part_here : (view : View) (marking : Marking) (before after : Streams) (opened : Bool) (held : HeldTalk) (rest : List ℕ) → Follows view marking before after opened false held rest → CutsLines view marking before after
part_here view marking before after opened held rest f =
    record { bytes = f.bytes; begun = opened; rest = rest; lines = f.lines; talk = f.tracks.talk; received = f.received; each = f.tracks.each; written = all_taken before.output after.output f.lines f.written }

pub part_of_piece : (view : View) (marking : Marking) (before after : Streams) (opened : Bool) (held : HeldTalk) (rest piece : List ℕ) (next output : Option (List ℕ)) (f : Follows view marking before after opened false held rest) → Consumes after.input next piece
    → ListsSome view marking (f.bytes ++ piece) f.lines after.output output → CutsLines view marking before (record { input = next; output = output })
part_of_piece view marking before after opened held rest piece next output f came some = record {
  bytes = f.bytes ++ piece;
  begun = some.begun;
  rest = some.rest;
  lines = f.lines ++ some.added;
  talk = some.talk;
  received = Consumes-trans before.input after.input next f.bytes piece f.received came;
  each = some.each;
  written = more_taken before.output after.output output f.lines some.added f.written some.written;
}

pub cut_nothing : (view : View) (marking : Marking) (s : Streams) → IsCutShort view marking s s
cut_nothing view marking s = inl (part_here view marking s s false (held_first marking) [] (follows_start view marking s false (held_first marking) [] refl refl refl))

-- ---- the end

some_left : (rest : List ℕ) → IsPartial rest → EndsBy true rest (end_of true false rest)
some_left [] p = refl
some_left (x ∷ xs) p = (omega arith, p)

pub ends_by : (opened stopped : Bool) (rest : List ℕ) → Stays opened stopped rest → EndsBy opened rest (end_of opened stopped rest)
ends_by true false rest s = some_left rest s
ends_by true true rest s = s
ends_by false false rest s = s
ends_by false true rest s = s.1

pub read_all : (opened : Bool) (rest : List ℕ) (input : Option (List ℕ)) → IsAtEnd input → IsReadTo (end_of opened false rest) rest input
read_all false rest input end = inl end
read_all true [] input end = end
read_all true (x ∷ xs) input end = end

pub read_rest : (opened : Bool) (rest : List ℕ) (input : Option (List ℕ)) → Stays opened true rest → IsReadTo (end_of opened true rest) rest input
read_rest false rest input s = inr s.0
read_rest true rest input s = tt

-- what is kept says how much is left
last_is : (view : View) (held : HeldTalk) (talk : Talk) → Keeps held talk → held_last view held ≡ last_lines view talk
last_is view held talk k =
    let told = told_by held.known.marked (unnumbered held.known.numbers) in
    let ends : List ℕ → List ℕ = ending_by view (summary_in held.known.numbers) in
    let last = last_of view talk.start in
    ap (λ (s : Start). ends (last_of view s told Client held.client.stopped held.client.left ++ last_of view s told Server held.server.stopped held.server.left)) k.start
    ∙ ap (λ s. ends (last told Client s held.client.left ++ last told Server held.server.stopped held.server.left)) k.client.stopped
    ∙ ap (λ n. ends (last told Client talk.client.stopped n ++ last told Server held.server.stopped held.server.left)) k.client.count
    ∙ ap (λ s. ends (last told Client talk.client.stopped (left talk.client) ++ last told Server s held.server.left)) k.server.stopped
    ∙ ap (λ n. ends (last told Client talk.client.stopped (left talk.client) ++ last told Server talk.server.stopped n)) k.server.count
    ∙ ap (λ (known : Known). ending_by view (summary_in known.numbers)
    (last (told_by known.marked (unnumbered known.numbers)) Client talk.client.stopped (left talk.client) ++ last (told_by known.marked (unnumbered known.numbers)) Server talk.server.stopped (left talk.server))) k.known

said_is : (held : HeldTalk) (talk : Talk) (end : End) → Keeps held talk → held_said held end ≡ said_of talk end
said_is held talk end k =
    ap (λ n. hint_of true held.known.client n ++ hint_of true held.known.server held.server.left ++ complaint_of end) k.client.count
    ∙ ap (λ n. hint_of true held.known.client (left talk.client) ++ hint_of true held.known.server n ++ complaint_of end) k.server.count
    ∙ ap (λ (known : Known). hint_of true known.client (left talk.client) ++ hint_of true known.server (left talk.server) ++ complaint_of end) k.known

-- the last lines were written
listing_written : (view : View) (marking : Marking) (before after : Streams) (opened stopped : Bool) (held : HeldTalk) (rest said : List ℕ) (status : ℕ) (output : Option (List ℕ)) → Follows view marking before after opened stopped held rest
    → IsReadTo (end_of opened stopped rest) rest after.input → status ≡ status_of (end_of opened stopped rest) → said ≡ held_said held (end_of opened stopped rest)
    → Appends after.output output (held_last view held) → ListsRecording view marking before (record { input = after.input; output = output }) status said
listing_written view marking before after opened stopped held rest said status output f all fine why last =
    let talk = f.tracks.talk in
    let end = end_of opened stopped rest in
    record {
      end = end;
      listed = record {
        bytes = f.bytes;
        output = f.lines ++ last_lines view talk;
        received = f.received;
        is = record { begun = opened; rest = rest; lines = f.lines; talk = talk; each = f.tracks.each; ending = ends_by opened stopped rest f.stays; text = refl };
        all = all;
        written = Appends-trans before.output after.output output f.lines (last_lines view talk) f.written (subst (Appends after.output output) (last_is view held talk f.tracks.keeps) last);
        why = why ∙ said_is held talk end f.tracks.keeps;
      };
      fine = fine;
    }

-- or a front of them
last_cut : (view : View) (marking : Marking) (before after : Streams) (opened stopped : Bool) (held : HeldTalk) (rest : List ℕ) (output : Option (List ℕ)) → Follows view marking before after opened stopped held rest
    → IsReadTo (end_of opened stopped rest) rest after.input → AppendsFront after.output output (held_last view held) → CutsListing view marking before (record { input = after.input; output = output })
last_cut view marking before after opened stopped held rest output f all last = record {
  bytes = f.bytes;
  end = end_of opened stopped rest;
  output = f.lines ++ last_lines view f.tracks.talk;
  received = f.received;
  is = record { begun = opened; rest = rest; lines = f.lines; talk = f.tracks.talk; each = f.tracks.each; ending = ends_by opened stopped rest f.stays; text = refl };
  all = all;
  written = more_taken before.output after.output output f.lines (last_lines view f.tracks.talk) f.written (subst (AppendsFront after.output output) (last_is view held f.tracks.talk f.tracks.keeps) last);
}

-- ---- what calls return of these

module _ {E : Type 0} where
  pub last_listed : (r : Result Ended E) (view : View) (marking : Marking) (before after : Streams) (output : Option (List ℕ)) (opened stopped : Bool) (held : HeldTalk) (rest : List ℕ) → Follows view marking before after opened stopped held rest
      → IsReadTo (end_of opened stopped rest) rest after.input
      → IfOk r (λ ended. ended.status ≡ status_of (end_of opened stopped rest)) → IfOk r (λ ended. ended.first.now ++ ended.second.now ++ ended.third.now ≡ held_said held (end_of opened stopped rest))
      → OnOk r (Appends after.output output (held_last view held))
      → IfOk r (λ ended. ListsRecording view marking before (record { input = after.input; output = output }) ended.status (ended.first.now ++ ended.second.now ++ ended.third.now))
  last_listed (Err e) view marking before after output opened stopped held rest f all fine said last = tt
  last_listed (Ok ended) view marking before after output opened stopped held rest f all fine said last =
      listing_written view marking before after opened stopped held rest (ended.first.now ++ ended.second.now ++ ended.third.now) ended.status output f all fine said last

  pub last_broken : (r : Result Ended E) (view : View) (marking : Marking) (before after : Streams) (output : Option (List ℕ)) (opened stopped : Bool) (held : HeldTalk) (rest : List ℕ) → Follows view marking before after opened stopped held rest
      → IsReadTo (end_of opened stopped rest) rest after.input → OnErr r (AppendsFront after.output output (held_last view held)) → OnErr r (IsCutShort view marking before (record { input = after.input; output = output }))
  last_broken (Ok ended) view marking before after output opened stopped held rest f all last = tt
  last_broken (Err e) view marking before after output opened stopped held rest f all last = inr (last_cut view marking before after opened stopped held rest output f all last)

-- nothing is read any more
pub last_breaks : (r : Result Ended Fault) (passed lacks gives_up : Type 0) (view : View) (marking : Marking) (before after : Streams) → OnErr r (IsCutShort view marking before after) → IfErr r (Caused lacks NoRead gives_up)
    → IfErr r (λ fault. BreaksOff passed view marking fault before after)
last_breaks (Ok ended) passed lacks gives_up view marking before after cut cause = tt
last_breaks (Err Memory) passed lacks gives_up view marking before after cut cause = cut
last_breaks (Err Read) passed lacks gives_up view marking before after cut cause = absurd cause
last_breaks (Err Write) passed lacks gives_up view marking before after cut cause = cut

pub memory_breaks : (r : Result Ended Fault) (passed : Type 0) (view : View) (marking : Marking) (before after : Streams) → IfErr r (λ fault. fault ≡ Memory) → IsCutShort view marking before after → IfErr r (λ fault. BreaksOff passed view marking fault before after)
memory_breaks (Ok ended) passed view marking before after lacks cut = tt
memory_breaks (Err Memory) passed view marking before after lacks cut = cut
memory_breaks (Err Read) passed view marking before after lacks cut = absurd cc
memory_breaks (Err Write) passed view marking before after lacks cut = cut
