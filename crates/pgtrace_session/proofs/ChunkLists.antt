-- The lines of a chunk.
use Rattle.pgtrace_session.proofs.Common.{◌≡◌, ℕ, ◌+◌, ◌≤◌, Bool, true, false, List, [], ◌++◌, length, take, drop, min, Option, Result, Ok, Err, refl, sym, ap, subst, ◌∙◌, arith, length-append, OnOk, append-nil, length-take, greatest, place_behind, Ends, View, stays_ended, Sender, Client, Server, Start, Half, Known, Talk, ListsFrame, ListsFrames, NoLines, now_at, side_in, with_numbers, IsMark, ShowsTime, mark, started, Numbers, at_time, Chunk, ListsBytes, ListsChunkTo, HeldHalf, HeldTalk, Holds, Keeps, ListsAllFrames, half_in, other, ListsChunk, counted_on, saturates, true≢false}
use Rattle.std.proofs.Math.Nat.{min-eq_left}
use Rattle.pgtrace_session.proofs.FrameLists.{other_ends, timed_side}

-- of a side that is stopped the bytes are counted
pub counted : (view : View) (mark : List ℕ) (who : Sender) (known : Known) (held : HeldHalf) (count : ℕ) (before : Half) (piece lines : List ℕ)
    → held.stopped ≡ true → count ≡ min (held.left + length piece) greatest → Holds (side_in who known) held before
    → ListsBytes view mark who known (before.rest ++ piece) before.passed known (record { bytes = held.bytes; place = held.place; stopped = held.stopped; left = count }) lines lines
counted view mark who known held count before piece lines stands counts holds =
    let halted : before.stopped ≡ true = sym holds.stopped ∙ stands in
    record {
      front = [];
      lines = [];
      half = record { passed = before.passed; rest = before.rest ++ piece; stopped = before.stopped };
      whole = refl;
      each = NoLines;
      holds = record {
        ending = subst (λ s. Ends (side_in who known) s (before.rest ++ piece)) (sym halted) (stays_ended (side_in who known) before.rest piece (subst (λ s. Ends (side_in who known) s before.rest) halted holds.ending));
        stopped = holds.stopped;
        count = counts ∙ ap (λ n. min (n + length piece) greatest) holds.count ∙ saturates (length before.rest) (length piece) greatest ∙ ap place_behind (sym (length-append before.rest piece));
        place = holds.place;
        bytes = λ e. absurd (true≢false (sym halted ∙ e));
      };
      passed = omega arith;
      text = sym (append-nil lines);
    }

-- the frames that are whole with it were listed
pub listed : (view : View) (mark : List ℕ) (who : Sender) (from to : Known) (held : HeldHalf) (n moved count : ℕ) (before : Half) (piece items left old new : List ℕ) (stopped : Bool)
    → held.stopped ≡ false → items ≡ held.bytes ++ piece → ListsAllFrames view mark who held.place from items (take n items) (drop n items) stopped to old new → n ≤ length items → left ≡ drop n items
    → moved ≡ min (held.place + n) greatest → count ≡ length left → count ≤ greatest → Holds (side_in who from) held before
    → ListsBytes view mark who from (before.rest ++ piece) before.passed to (record { bytes = left; place = moved; stopped = stopped; left = count }) old new
listed view mark who from to held n moved count before piece items left old new stopped goes grown all le cut moves counts small holds =
    let same : before.rest ++ piece ≡ items = ap (λ l. l ++ piece) (sym (holds.bytes (sym holds.stopped ∙ goes))) ∙ sym grown in
    let long : length (take n items) ≡ n = omega (arith, length-take n items, le) in
    record {
      front = take n items;
      lines = all.lines;
      half = record { passed = before.passed + length (take n items); rest = left; stopped = stopped };
      whole = same ∙ all.whole ∙ ap (λ l. take n items ++ l) (sym cut);
      each = counted_on (ListsFrame view mark who) before.passed from to (take n items) all.lines (subst (λ p. ListsFrames view mark who p from (take n items) all.lines to) holds.place all.each);
      holds = record {
        ending = subst (Ends (side_in who to) stopped) (sym cut) all.ending;
        stopped = refl;
        count = sym (min-eq_left small) ∙ ap place_behind counts;
        place = moves ∙ ap (λ k. min (k + n) greatest) holds.place ∙ saturates before.passed n greatest ∙ ap (λ k. place_behind (before.passed + k)) (sym long);
        bytes = λ e. refl;
      };
      passed = refl;
      text = all.text;
    }

-- ---- a chunk of a side

abbrev held_in : Sender → HeldTalk → HeldHalf
held_in Client held = held.client
held_in Server held = held.server

abbrev held_with : Sender → HeldTalk → Known → HeldHalf → Start → HeldTalk
held_with Client held known half start = record { known = known; client = half; server = held.server; start = start }
held_with Server held known half start = record { known = known; client = held.client; server = half; start = start }

abbrev talk_with : Sender → Talk → Known → Half → Start → Talk
talk_with Client talk known half start = record { known = known; client = half; server = talk.server; start = start }
talk_with Server talk known half start = record { known = known; client = talk.client; server = half; start = start }

keeps_in : (who : Sender) (held : HeldTalk) (talk : Talk) → Keeps held talk → Holds (side_in who talk.known) (held_in who held) (half_in who talk)
keeps_in Client held talk k = k.client
keeps_in Server held talk k = k.server

keeps_with : (who : Sender) (held : HeldTalk) (talk : Talk) (known : Known) (half : HeldHalf) (left : Half) (start : Start) → Holds (side_in who known) half left → Holds (side_in (other who) known) (held_in (other who) held) (half_in (other who) talk)
    → Keeps (held_with who held known half start) (talk_with who talk known left start)
keeps_with Client held talk known half left start mine others = record { known = refl; client = mine; server = others; start = refl }
keeps_with Server held talk known half left start mine others = record { known = refl; client = others; server = mine; start = refl }

lists_with : (view : View) (who : Sender) (before : Talk) (micros : ℕ) (time bytes text front : List ℕ) (to : Known) (left : Half) → ShowsTime view.style.form (started before.start micros) micros time → (half_in who before).rest ++ bytes ≡ front ++ left.rest
    → ListsFrames view (mark view.style.form who time) who (half_in who before).passed (now_at micros before.known) front text to → Ends (side_in who to) left.stopped left.rest → left.passed ≡ (half_in who before).passed + length front
    → ListsChunk view before (record { sender = who; micros = micros; bytes = bytes }) text (talk_with who before to left (started before.start micros))
lists_with view Client before micros time bytes text front to left shown whole each ends passed = record { time = time; shown = shown; front = front; whole = whole; each = each; ending = ends; passed = passed; same = refl; start = refl }
lists_with view Server before micros time bytes text front to left shown whole each ends passed = record { time = time; shown = shown; front = front; whole = whole; each = each; ending = ends; passed = passed; same = refl; start = refl }

of_side : (view : View) (who : Sender) (before : Talk) (held : HeldTalk) (micros : ℕ) (time bytes : List ℕ) (to : Known) (half : HeldHalf) (old new : List ℕ) → Keeps held before → ShowsTime view.style.form (started held.start micros) micros time
    → ListsBytes view (mark view.style.form who time) who (now_at micros held.known) ((half_in who before).rest ++ bytes) (half_in who before).passed to half old new
    → ListsChunkTo view before (record { sender = who; micros = micros; bytes = bytes }) (held_with who held to half (started held.start micros)) old new
of_side view who before held micros time bytes to half old new keeps shown lists =
    let m = mark view.style.form who time in
    let passed = (half_in who before).passed in
    let at_start = subst (λ (s : Start). ShowsTime view.style.form (started s micros) micros time) keeps.start shown in
    let each : ListsFrames view m who passed (now_at micros before.known) lists.front lists.lines to =
    subst (λ k. ListsFrames view m who passed (now_at micros k) lists.front lists.lines to) keeps.known lists.each in
    let others = keeps_in (other who) held before keeps in
    let left = half_in (other who) before in
    record {
      after = talk_with who before to lists.half (started before.start micros);
      text = lists.lines;
      lists = lists_with view who before micros time bytes lists.lines lists.front to lists.half at_start lists.whole each lists.holds.ending lists.passed;
      keeps = subst (λ (s : Start). Keeps (held_with who held to half (started s micros)) (talk_with who before to lists.half (started before.start micros))) (sym keeps.start) (keeps_with who held before to half lists.half (started before.start micros) lists.holds
          (record {
            ending = other_ends view m who passed (now_at micros before.known) lists.front lists.lines to left.stopped left.rest each
                (subst (λ s. Ends s left.stopped left.rest) (sym (timed_side (other who) micros before.known)) others.ending);
            stopped = others.stopped;
            count = others.count;
            place = others.place;
            bytes = others.bytes;
          }));
      grown = lists.text;
    }

-- what a call returns of these
pub ok_side : {T E : Type 0} (r : Result T E) (view : View) (who : Sender) (held : HeldTalk) (chunk : Chunk) (numbers : Option Numbers) (start : Start) (marks : List ℕ) (to : Known) (half : HeldHalf) (old new : List ℕ) → chunk.sender ≡ who → numbers ≡ at_time chunk.micros held.known.numbers → start ≡ started held.start chunk.micros
    → IsMark view.style.form chunk.sender start chunk.micros marks
    → OnOk r ((before : Half) → Holds (side_in who held.known) (held_in who held) before → ListsBytes view marks who (with_numbers numbers held.known) (before.rest ++ chunk.bytes) before.passed to half old new)
    → OnOk r ((before : Talk) → Keeps held before → ListsChunkTo view before chunk (held_with who held to half start) old new)
ok_side (Err e) view who held chunk numbers start marks to half old new is timed first marked all = tt
ok_side (Ok x) view who held chunk numbers start marks to half old new is timed first marked all = λ before keeps.
    let mine = half_in who before in
    let holds = subst (λ (k : Known). Holds (side_in who k) (held_in who held) mine) (sym keeps.known) (keeps_in who held before keeps) in
    let time = marked.0 in
    let now = mark view.style.form who time in
    let shown = subst (λ (s : Start). ShowsTime view.style.form s chunk.micros time) first marked.1 in
    let mark_is : marks ≡ now = marked.2 ∙ ap (λ s. mark view.style.form s time) is in
    let lists = subst (λ n. ListsBytes view now who (with_numbers n held.known) (mine.rest ++ chunk.bytes) mine.passed to half old new) timed
    (subst (λ m. ListsBytes view m who (with_numbers numbers held.known) (mine.rest ++ chunk.bytes) mine.passed to half old new) mark_is (all mine holds)) in
    subst (λ s. ListsChunkTo view before (record { sender = s; micros = chunk.micros; bytes = chunk.bytes }) (held_with who held to half start) old new) (sym is)
    (subst (λ n. ListsChunkTo view before (record { sender = who; micros = chunk.micros; bytes = chunk.bytes }) (held_with who held to half n) old new) (sym first)
    (of_side view who before held chunk.micros time chunk.bytes to half old new keeps shown lists))
