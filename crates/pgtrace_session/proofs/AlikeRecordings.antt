-- Recordings that differ in their secrets alone have the same listing.
use Rattle.pgtrace_session.proofs.Common.{◌≡◌, ◌+◌, ℕ, Bool, List, [], ◌++◌, length, refl, sym, ap, subst, ◌∙◌, arith, length-append, place_behind, quietly, Ends, View, Sender, Client, Server, End, EndsBy, Known, ListsChunk, ListsChunks, ListsFrame, ListsFrames, NoLines, OneLine, NoChunkListed, OneChunkListed, Talk, begins, half_in, last_lines, last_of, left, now_at, side_in, told_by, unnumbered, summary_in, ending_by, Marking, Start, ShowsTime, mark, started, Chunk, IsListing}
use Rattle.pgtrace_session.specs.AlikeRecordings.{AlikeFrames, NoneAlike, OneAlike, AlikeTalks, AlikeChunk, AlikeChunks, NoChunkAlike, OneChunkAlike, AlikeRecordings}
use Rattle.pgtrace_session.proofs.Secrets.{frames_hidden, long_alike}

-- ---- frames

long_frames : (view : View) (m : List ℕ) (who : Sender) (start : ℕ) (from : Known) (a b lines : List ℕ) (to : Known) → AlikeFrames view m who start from a b lines to → length a ≡ length b
long_frames view m who start from [] [] [] _ NoneAlike = refl
long_frames view m who start from _ _ _ to (OneAlike {bytes = a} {others = b} {lines = lines} {here = here} f g text before lists alike) =
    omega (arith, long_frames view m who start from a b lines here before, length-append a f, length-append b g, long_alike (side_in who here) f g alike)

hidden_frames : (view : View) (m : List ℕ) (who : Sender) (start : ℕ) (from : Known) (a b lines : List ℕ) (to : Known) → AlikeFrames (quietly view) m who start from a b lines to → ListsFrames (quietly view) m who start from b lines to
hidden_frames view m who start from [] [] [] _ NoneAlike = NoLines
hidden_frames view m who start from _ _ _ to (OneAlike {bytes = a} {others = b} {lines = lines} {here = here} f g text before lists alike) =
    let place : place_behind (start + length a) ≡ place_behind (start + length b) = ap (λ n. place_behind (start + n)) (long_frames (quietly view) m who start from a b lines here before) in
    OneLine g text (hidden_frames view m who start from a b lines here before)
    (subst (λ p. ListsFrame (quietly view) m who p here g text to) place (frames_hidden view m who (place_behind (start + length a)) here to f g text alike lists))

-- ---- chunks

hidden_chunk : (view : View) (before then after later : Talk) (chunk : Chunk) (bytes text : List ℕ) → AlikeTalks before then → AlikeChunk (quietly view) before then chunk bytes text after later → ListsChunk (quietly view) then (record { sender = chunk.sender; micros = chunk.micros; bytes = bytes }) text later
hidden_chunk view before then after later chunk bytes text s a =
    let who = chunk.sender in
    let m = mark view.style.form who a.lists.time in
    let half = s.halves who in
    let long = long_frames (quietly view) m who (half_in who before).passed (now_at chunk.micros before.known) a.lists.front a.front text after.known a.each in
    let each = hidden_frames view m who (half_in who before).passed (now_at chunk.micros before.known) a.lists.front a.front text after.known a.each in
    record {
      time = a.lists.time;
      shown = subst (λ (start : Start). ShowsTime view.style.form (started start chunk.micros) chunk.micros a.lists.time) (sym s.start) a.lists.shown;
      front = a.front;
      whole = a.whole;
      each = subst (λ n. ListsFrames (quietly view) m who n (now_at chunk.micros then.known) a.front text later.known) (sym half.passed)
          (subst (λ (k : Known). ListsFrames (quietly view) m who (half_in who before).passed (now_at chunk.micros k) a.front text later.known) (sym s.known)
          (subst (ListsFrames (quietly view) m who (half_in who before).passed (now_at chunk.micros before.known) a.front text) (sym a.left.known) each));
      ending = subst (λ (k : Known). Ends (side_in who k) (half_in who later).stopped (half_in who later).rest) (sym a.left.known) (subst (λ b. Ends (side_in who after.known) b (half_in who later).rest) (sym (a.left.halves who).stopped) a.ending);
      passed = (a.left.halves who).passed ∙ a.lists.passed ∙ ap (λ n. n + length a.lists.front) (sym half.passed) ∙ ap (λ n. (half_in who then).passed + n) long;
      same = a.same;
      start = a.left.start ∙ a.lists.start ∙ ap (λ (start : Start). started start chunk.micros) (sym s.start);
    }

listed : (view : View) (from : Talk) (cs ds : List Chunk) (lines : List ℕ) (to too : Talk) → AlikeChunks view from cs ds lines to too → ListsChunks view from cs lines to
listed view from [] [] [] _ _ NoChunkAlike = NoChunkListed
listed view from _ _ _ to too (OneChunkAlike {chunks = cs} {others = ds} {lines = lines} {here = here} {there = there} chunk bytes text before a) = OneChunkListed chunk text (listed view from cs ds lines here there before) a.lists

same_talks : (view : View) (from : Talk) (cs ds : List Chunk) (lines : List ℕ) (to too : Talk) → AlikeChunks view from cs ds lines to too → AlikeTalks to too
same_talks view from [] [] [] _ _ NoChunkAlike = record { known = refl; start = refl; halves = λ who. record { passed = refl; rest = refl; stopped = refl } }
same_talks view from _ _ _ to too (OneChunkAlike chunk bytes text before a) = a.left

hidden : (view : View) (from : Talk) (cs ds : List Chunk) (lines : List ℕ) (to too : Talk) → AlikeChunks (quietly view) from cs ds lines to too → ListsChunks (quietly view) from ds lines too
hidden view from [] [] [] _ _ NoChunkAlike = NoChunkListed
hidden view from _ _ _ to too (OneChunkAlike {chunks = cs} {others = ds} {lines = lines} {here = here} {there = there} chunk bytes text before a) =
    OneChunkListed (record { sender = chunk.sender; micros = chunk.micros; bytes = bytes }) text (hidden view from cs ds lines here there before) (hidden_chunk view here there to too chunk bytes text (same_talks (quietly view) from cs ds lines here there before) a)

-- ---- the end

same_last : (view : View) (talk another : Talk) → AlikeTalks talk another → last_lines view another ≡ last_lines view talk
same_last view talk another s =
    let last = λ (start : Start) (k : Known) (a b : Bool) (m n : ℕ). ending_by view (summary_in k.numbers)
    (last_of view start (told_by k.marked (unnumbered k.numbers)) Client a m ++ last_of view start (told_by k.marked (unnumbered k.numbers)) Server b n) in
    let client = s.halves Client in
    let server = s.halves Server in
    ap (λ start. last start another.known another.client.stopped another.server.stopped (left another.client) (left another.server)) s.start
    ∙ ap (λ k. last talk.start k another.client.stopped another.server.stopped (left another.client) (left another.server)) s.known
    ∙ ap (λ b. last talk.start talk.known b another.server.stopped (left another.client) (left another.server)) client.stopped
    ∙ ap (λ b. last talk.start talk.known talk.client.stopped b (left another.client) (left another.server)) server.stopped
    ∙ ap (λ n. last talk.start talk.known talk.client.stopped talk.server.stopped (place_behind n) (left another.server)) client.rest
    ∙ ap (λ n. last talk.start talk.known talk.client.stopped talk.server.stopped (left talk.client) (place_behind n)) server.rest

pub recordings_hidden : (view : View) (marking : Marking) (begun : Bool) (rest bytes another : List ℕ) (end : End) → EndsBy begun rest end → AlikeRecordings (quietly view) marking begun rest bytes another
    → (output : List ℕ) × IsListing (quietly view) marking bytes end output × IsListing (quietly view) marking another end output
recordings_hidden view marking begun rest bytes another end ends a = (
  a.lines ++ last_lines (quietly view) a.talk,
  record { begun = begun; rest = rest; lines = a.lines; talk = a.talk; each = record { chunks = a.chunks; records = a.one; each = listed (quietly view) (begins marking) a.chunks a.others a.lines a.talk a.later a.alike }; ending = ends; text = refl },
  record {
    begun = begun;
    rest = rest;
    lines = a.lines;
    talk = a.later;
    each = record { chunks = a.others; records = a.two; each = hidden view (begins marking) a.chunks a.others a.lines a.talk a.later a.alike };
    ending = ends;
    text = ap (λ l. a.lines ++ l) (sym (same_last (quietly view) a.talk a.later (same_talks (quietly view) (begins marking) a.chunks a.others a.lines a.talk a.later a.alike)));
  },
)
