-- A recording has one listing.
use Rattle.pgtrace_session.proofs.Common.{◌≡◌, ◌≢◌, ℕ, ℤ, suc, ◌+◌, ◌<◌, ◌^◌, Bool, true, false, List, [], ◌∷◌, ◌++◌, length, take, drop, get_or, Option, refl, sym, ap, subst, ◌∙◌, arith, inl, inr, length-append, append_assoc, flat_map, AllByRecursion, append-nil, flat_map-cons, drop-append_seam, take-append_seam, w32, w64, from_be_bytes, uint32, uint64, oid_number, uint64_number, name_in, Ends, View, Sender, Client, Server, End, Half, ListsChunks, NoChunkListed, OneChunkListed, ListsChunk, Known, Talk, ListsFrame, ListsFrames, begins, half_in, last_lines, note, noted_by, noted_in, now_at, other, side_in, text_of, told_by, with_numbers, with_side, with_types, Marking, Told, Start, Dated, Form, Columns, ShowsTime, clock, day_of, fraction, mark, started, Numbers, placed_by, Chunk, EndsBy, IsChunk, IsNoChunk, IsPartial, IsShort, Records, arrow, chunk_bytes, magic, HasLines, IsListing, Learns, ShowsTyped, said_in, SameFirst, rows_one, ends_one, line_one, no_line}
use Rattle.pgp_value_text.specs.Calendar.{ShowsDay}
use Rattle.pgtrace_session.specs.declared.ending.End.TheVariants.{Whole, Cut, NoChunk, NoRecording}
use Rattle.pgtrace_session.proofs.OneTyped.{OneText, learns_one, shows_one}
use Rattle.pgtrace_session.proofs.Sayings.{said_one}

-- ---- a frame

lists_one : (one_text : OneText) (view : View) (m : List ℕ) (who : Sender) (place : ℕ) (here to too : Known) (f g text another x y : List ℕ) → ListsFrame view m who place here f text to → ListsFrame view m who place here g another too → f ++ x ≡ g ++ y → SameFirst f g text another x y to too
lists_one one_text view m who place here to too f g text another x y a b e =
    let from = side_in who here in
    let one = line_one view.style place from a.after b.after f g a.line b.line x y a.reported b.reported e in
    let named = name_in view.style place from g b.line b.after b.reported in
    let notes = noted_in view.style place from g b.line b.after b.reported in
    let first = said_in view.style place from f a.line a.after a.reported in
    let other = said_in view.style place from g b.line b.after b.reported in
    let said : first ≡ other = said_one view.style place from f g a.line b.line a.after b.after one.0.frames a.reported b.reported in
    let noted : noted_in view.style place from f a.line a.after a.reported ≡ notes = ap noted_by said in
    let same : (a.told, a.numbers) ≡ (b.told, b.numbers) = sym a.placed ∙ ap (λ s. placed_by f s here.numbers) said ∙ ap (λ l. placed_by l other here.numbers) one.0.frames ∙ b.placed in
    let told : a.told ≡ b.told = ap (λ (x : Told × Option Numbers). x.0) same in
    let numbers : a.numbers ≡ b.numbers = ap (λ (x : Told × Option Numbers). x.1) same in
    let types : a.types ≡ b.types = learns_one b.told other here.types a.types b.types (subst (λ t. Learns t other here.types a.types) told (subst (λ s. Learns a.told s here.types a.types) said a.learns)) b.learns in
    let shows = subst (λ t. ShowsTyped view.style place (length f) t other a.types a.line a.typed) told (subst (λ s. ShowsTyped view.style place (length f) a.told s a.types a.line a.typed) said a.shows) in
    let shown = subst (λ t. ShowsTyped view.style place (length f) b.told other t a.line a.typed) types shows in
    let framed = subst (λ l. ShowsTyped view.style place (length l) b.told other b.types a.line a.typed) one.0.frames shown in
    let typed : a.typed ≡ b.typed = shows_one one_text view.style place (length g) b.told other b.types b.line a.typed b.typed (subst (λ l. ShowsTyped view.style place (length g) b.told other b.types l a.typed) one.0.texts framed) b.shows in
    let by = λ (t : Told). told_by here.marked t in
    record {
      frames = one.0.frames;
      texts = a.is ∙ ap (λ t. text_of view m (by t) place here.requests (name_in view.style place from f a.line a.after a.reported) a.typed) told
          ∙ ap (λ n. text_of view m (by b.told) place here.requests n a.typed) one.1 ∙ ap (λ l. text_of view m (by b.told) place here.requests named l) typed ∙ sym b.is;
      rests = one.0.rests;
      states = a.behind ∙ ap (λ n. note n (with_types a.types (with_numbers a.numbers (with_side who here a.after)))) noted
          ∙ ap (λ n. note notes (with_types a.types (with_numbers n (with_side who here a.after)))) numbers
          ∙ ap (λ t. note notes (with_types t (with_numbers b.numbers (with_side who here a.after)))) types
          ∙ ap (λ s. note notes (with_types b.types (with_numbers b.numbers (with_side who here s)))) one.0.states ∙ sym b.behind;
    }

-- and where none stands first, none is listed
no_text : (view : View) (m : List ℕ) (who : Sender) (place : ℕ) (from to : Known) (stopped : Bool) (rest f text x : List ℕ) → Ends (side_in who from) stopped rest → ListsFrame view m who place from f text to → rest ≡ f ++ x → ⊥
no_text view m who place from to stopped rest f text x ends has e = no_line view.style place (side_in who from) has.after stopped rest f has.line x ends has.reported e

-- ---- a time

abbrev pub OneDay : Type 0
OneDay = (days : ℤ) (a b : List ℕ) → ShowsDay days a → ShowsDay days b → a ≡ b

time_one : (one_day : OneDay) (form : Form) (start : Start) (micros : ℕ) (a b : List ℕ) → ShowsTime form start micros a → ShowsTime form start micros b → a ≡ b
time_one one_day Columns Dated micros a b s t = s.2 ∙ ap (λ day. day ++ 32 ∷ clock micros ++ fraction micros) (one_day (day_of micros) s.0 t.0 s.1 t.1) ∙ sym t.2
time_one one_day form start micros a b s t = s ∙ sym t

-- ---- a chunk

half_same : (a b : Half) → a.passed ≡ b.passed → a.rest ≡ b.rest → a.stopped ≡ b.stopped → a ≡ b
half_same a b p r s =
    ap (λ n. record { passed = n; rest = a.rest; stopped = a.stopped }) p ∙ ap (λ l. record { passed = b.passed; rest = l; stopped = a.stopped }) r ∙ ap (λ t. record { passed = b.passed; rest = b.rest; stopped = t }) s

parts_same : (a b : Talk) → a.known ≡ b.known → a.client ≡ b.client → a.server ≡ b.server → a.start ≡ b.start → a ≡ b
parts_same a b k c s t =
    ap (λ x. record { known = x; client = a.client; server = a.server; start = a.start }) k ∙ ap (λ x. record { known = b.known; client = x; server = a.server; start = a.start }) c
    ∙ ap (λ x. record { known = b.known; client = b.client; server = x; start = a.start }) s ∙ ap (λ x. record { known = b.known; client = b.client; server = b.server; start = x }) t

talk_same : (who : Sender) (a b : Talk) → a.known ≡ b.known → half_in who a ≡ half_in who b → half_in (other who) a ≡ half_in (other who) b → a.start ≡ b.start → a ≡ b
talk_same Client a b k c s t = parts_same a b k c s t
talk_same Server a b k s c t = parts_same a b k c s t

pub chunk_lists_one : (one_text : OneText) (one_day : OneDay) (view : View) (before after then : Talk) (chunk : Chunk) (text another : List ℕ) → ListsChunk view before chunk text after → ListsChunk view before chunk another then → (text ≡ another) × (after ≡ then)
chunk_lists_one one_text one_day view before after then chunk text another a b =
    let who = chunk.sender in
    let m = mark view.style.form who b.time in
    let start = (half_in who before).passed in
    let from = now_at chunk.micros before.known in
    let times = time_one one_day view.style.form (started before.start chunk.micros) chunk.micros a.time b.time a.shown b.shown in
    let each = subst (λ t. ListsFrames view (mark view.style.form who t) who start from a.front text after.known) times a.each in
    let one = rows_one (ListsFrame view m who) (λ k. Ends (side_in who k)) (lists_one one_text view m who) (λ k. ends_one (side_in who k)) (no_text view m who) after.known then.known start from a.front b.front text another
    (half_in who after).rest (half_in who then).rest (half_in who after).stopped (half_in who then).stopped each a.ending b.each b.ending (sym a.whole ∙ b.whole) in
    let half = half_same (half_in who after) (half_in who then) (a.passed ∙ ap (λ l. start + length l) one.fronts ∙ sym b.passed) one.rests one.ends in
    (one.texts, talk_same who after then one.states half (a.same ∙ sym b.same) (a.start ∙ sym b.start))

data InOrder (view : View) (to : Talk) : Talk → List Chunk → List ℕ → Type 0 where
  NoMore : InOrder view to to [] []
  OneMore : {from mid : Talk} {chunks : List Chunk} {lines : List ℕ} (chunk : Chunk) (text : List ℕ) → ListsChunk view from chunk text mid → InOrder view to mid chunks lines → InOrder view to from (chunk ∷ chunks) (text ++ lines)

chunk_more : (view : View) (here from to : Talk) (chunks : List Chunk) (chunk : Chunk) (lines text : List ℕ) → InOrder view here from chunks lines → ListsChunk view here chunk text to → InOrder view to from (chunks ++ chunk ∷ []) (lines ++ text)
chunk_more view _ from to [] chunk [] text NoMore has = subst (λ l. InOrder view to from (chunk ∷ []) l) (append-nil text) (OneMore chunk text has NoMore)
chunk_more view here from to _ chunk _ text (OneMore {mid = mid} {chunks = chunks} {lines = lines} c t is rest) has =
    subst (λ l. InOrder view to from (c ∷ (chunks ++ chunk ∷ [])) l) (sym (append_assoc t lines text)) (OneMore c t is (chunk_more view here mid to chunks chunk lines text rest has))

chunks_of : (view : View) (from to : Talk) (chunks : List Chunk) (lines : List ℕ) → ListsChunks view from chunks lines to → InOrder view to from chunks lines
chunks_of view from _ [] [] NoChunkListed = NoMore
chunks_of view from to _ _ (OneChunkListed {chunks = chunks} {lines = lines} {here = here} chunk text before has) = chunk_more view here from to chunks chunk lines text (chunks_of view from here chunks lines before) has

listed_one : (one_text : OneText) (one_day : OneDay) (view : View) (to too from : Talk) (cs ds : List Chunk) (lines others : List ℕ) → InOrder view to from cs lines → InOrder view too from ds others → cs ≡ ds → (lines ≡ others) × (to ≡ too)
listed_one one_text one_day view _ _ _ [] [] [] [] NoMore NoMore e = (refl, refl)
listed_one one_text one_day view _ too from [] _ [] _ NoMore (OneMore {chunks = ds} d u has tail) e = let h : 0 ≡ suc (length ds) = ap length e in absurd (omega (arith, h))
listed_one one_text one_day view to _ from _ [] _ [] (OneMore {chunks = cs} c t is rest) NoMore e = let h : suc (length cs) ≡ 0 = ap length e in absurd (omega (arith, h))
listed_one one_text one_day view to too from _ _ _ _ (OneMore {mid = mid} {chunks = cs} {lines = more} c t is rest) (OneMore {mid = last} {chunks = ds} {lines = less} d u has tail) e =
    let first = ap (λ l. get_or l 0 c) e in
    let one = chunk_lists_one one_text one_day view from mid last d t u (subst (λ k. ListsChunk view from k t mid) first is) has in
    let same = listed_one one_text one_day view to too mid cs ds more less rest (subst (λ h. InOrder view too h ds less) (sym one.1) tail) (ap (λ l. drop 1 l) e) in
    (ap (λ l. l ++ more) one.0 ∙ ap (λ l. u ++ l) same.0, same.1)

-- ---- the chunks of a recording

arrow_one : (a b : Sender) → arrow a ≡ arrow b → a ≡ b
arrow_one Client Client e = refl
arrow_one Server Server e = refl
arrow_one Client Server e = let h : 62 ≡ 60 = e in absurd (omega (arith, h))
arrow_one Server Client e = let h : 60 ≡ 62 = e in absurd (omega (arith, h))

-- as many bytes at the front of both
fronts_one : (xs ys p q : List ℕ) → length xs ≡ length ys → xs ++ p ≡ ys ++ q → (xs ≡ ys) × (p ≡ q)
fronts_one xs ys p q long e = (
  sym (take-append_seam xs p) ∙ ap (take (length xs)) e ∙ ap (λ n. take n (ys ++ q)) long ∙ take-append_seam ys q,
  sym (drop-append_seam xs p) ∙ ap (drop (length xs)) e ∙ ap (λ n. drop n (ys ++ q)) long ∙ drop-append_seam ys q,
)

-- the time, the length and what comes after them
numbers_one : (m n k l : ℕ) (x y : List ℕ) → m < 2 ^ 64 → n < 2 ^ 64 → k < 2 ^ 32 → l < 2 ^ 32 → uint64 m ++ uint32 k ++ x ≡ uint64 n ++ uint32 l ++ y → (m ≡ n) × (k ≡ l) × (x ≡ y)
numbers_one m n k l x y fm fn fk fl e =
    let times = fronts_one (uint64 m) (uint64 n) (uint32 k ++ x) (uint32 l ++ y) (uint64_number.len m ∙ sym (uint64_number.len n)) (sym (append_assoc (uint64 m) (uint32 k) x) ∙ e ∙ append_assoc (uint64 n) (uint32 l) y) in
    let sizes = fronts_one (uint32 k) (uint32 l) x y (oid_number.len k ∙ sym (oid_number.len l)) times.1 in
    (sym (uint64_number.back m fm) ∙ ap (from_be_bytes w64) times.0 ∙ uint64_number.back n fn, sym (oid_number.back k fk) ∙ ap (from_be_bytes w32) sizes.0 ∙ oid_number.back l fl, sizes.1)

behind_arrow : (c : Chunk) (x : List ℕ) → chunk_bytes c ++ x ≡ arrow c.sender ∷ (uint64 c.micros ++ uint32 (length c.bytes) ++ (c.bytes ++ x))
behind_arrow c x = ap (λ l. arrow c.sender ∷ l) (append_assoc (uint64 c.micros ++ uint32 (length c.bytes)) c.bytes x)

pub chunk_one : (a b : Chunk) (x y : List ℕ) → IsChunk a → IsChunk b → chunk_bytes a ++ x ≡ chunk_bytes b ++ y → (a ≡ b) × (x ≡ y)
chunk_one a b x y fa fb e =
    let all = sym (behind_arrow a x) ∙ e ∙ behind_arrow b y in
    let who = arrow_one a.sender b.sender (ap (λ l. get_or l 0 0) all) in
    let parts = numbers_one a.micros b.micros (length a.bytes) (length b.bytes) (a.bytes ++ x) (b.bytes ++ y) fa.time fb.time fa.fits fb.fits (ap (drop 1) all) in
    let bodies = fronts_one a.bytes b.bytes x y parts.1 parts.2 in (
      ap (λ s. record { sender = s; micros = a.micros; bytes = a.bytes }) who ∙ ap (λ n. record { sender = b.sender; micros = n; bytes = a.bytes }) parts.0 ∙ ap (λ l. record { sender = b.sender; micros = b.micros; bytes = l }) bodies.0,
      bodies.1,
    )

-- no whole chunk stands first
abbrev NoneStands : List ℕ → Type 0
NoneStands rest = (c : Chunk) (more : List ℕ) → IsChunk c → rest ≢ chunk_bytes c ++ more

short_bytes : (c : Chunk) (more rest : List ℕ) (first : ℕ) → IsChunk c → first ∷ rest ≡ chunk_bytes c ++ more → IsShort rest → ⊥
short_bytes c more rest first is e short =
    let all = ap (drop 1) (e ∙ behind_arrow c more) in
    let parts = numbers_one short.micros c.micros short.len (length c.bytes) short.rest (c.bytes ++ more) short.time is.time short.fits is.fits (sym short.parts ∙ all) in
    omega (arith, short.missing, parts.1, ap length parts.2, length-append c.bytes more)

few_bytes : (c : Chunk) (more rest : List ℕ) (first : ℕ) → first ∷ rest ≡ chunk_bytes c ++ more → length rest < 12 → ⊥
few_bytes c more rest first e few =
    let all = ap (drop 1) (e ∙ behind_arrow c more) in
    omega (arith, few, ap length all, length-append (uint64 c.micros ++ uint32 (length c.bytes)) (c.bytes ++ more), length-append (uint64 c.micros) (uint32 (length c.bytes)), uint64_number.len c.micros, oid_number.len (length c.bytes))

partial_none : (rest : List ℕ) → IsPartial rest → NoneStands rest
partial_none [] p c more is e = let h : 0 ≡ suc (length (uint64 c.micros ++ uint32 (length c.bytes) ++ (c.bytes ++ more))) = ap length (e ∙ behind_arrow c more) in omega (arith, h)
partial_none (first ∷ rest) p c more is e = elim p.1 [ inl few ↦ few_bytes c more rest first e few | inr short ↦ short_bytes c more rest first is e short ]

ends_none : (rest : List ℕ) (end : End) → EndsBy true rest end → NoneStands rest
ends_none rest Whole e = partial_none rest (subst IsPartial (sym e) tt)
ends_none rest Cut e = partial_none rest e.1
ends_none [] NoChunk e = absurd e
ends_none (first ∷ rest) NoChunk e = λ c more is same. e c.sender (ap (λ l. get_or l 0 0) same)
ends_none rest NoRecording e = absurd e

split : (cs : List Chunk) (c : Chunk) (x : List ℕ) → flat_map chunk_bytes (c ∷ cs) ++ x ≡ chunk_bytes c ++ (flat_map chunk_bytes cs ++ x)
split cs c x = ap (λ l. l ++ x) (flat_map-cons chunk_bytes c cs) ∙ append_assoc (chunk_bytes c) (flat_map chunk_bytes cs) x

chunks_one : (cs ds : List Chunk) (x y : List ℕ) → AllByRecursion IsChunk cs → AllByRecursion IsChunk ds → NoneStands x → NoneStands y → flat_map chunk_bytes cs ++ x ≡ flat_map chunk_bytes ds ++ y → (cs ≡ ds) × (x ≡ y)
chunks_one [] [] x y fc fd nx ny e = (refl, e)
chunks_one [] (d ∷ ds) x y fc fd nx ny e = absurd (nx d (flat_map chunk_bytes ds ++ y) fd.0 (e ∙ split ds d y))
chunks_one (c ∷ cs) [] x y fc fd nx ny e = absurd (ny c (flat_map chunk_bytes cs ++ x) fc.0 (sym e ∙ split cs c x))
chunks_one (c ∷ cs) (d ∷ ds) x y fc fd nx ny e =
    let one = chunk_one c d (flat_map chunk_bytes cs ++ x) (flat_map chunk_bytes ds ++ y) fc.0 fd.0 (sym (split cs c x) ∙ e ∙ split ds d y) in
    let more = chunks_one cs ds x y fc.1 fd.1 nx ny one.1 in
    (ap (λ k. k ∷ cs) one.0 ∙ ap (λ l. d ∷ l) more.0, more.1)

end_one : (rest : List ℕ) (a b : End) → EndsBy true rest a → EndsBy true rest b → a ≡ b
end_one rest Whole Whole a b = refl
end_one rest Cut Cut a b = refl
end_one rest NoChunk NoChunk a b = refl
end_one rest Whole Cut a b = absurd (omega (arith, ap length a, b.0))
end_one rest Cut Whole a b = absurd (omega (arith, ap length b, a.0))
end_one rest Whole NoChunk a b = let none : IsNoChunk [] = subst IsNoChunk a b in absurd none
end_one rest NoChunk Whole a b = let none : IsNoChunk [] = subst IsNoChunk b a in absurd none
end_one [] Cut NoChunk a b = absurd b
end_one [] NoChunk Cut a b = absurd a
end_one (first ∷ rest) Cut NoChunk a b = absurd (b a.1.0.0 a.1.0.1)
end_one (first ∷ rest) NoChunk Cut a b = absurd (a b.1.0.0 b.1.0.1)
end_one rest NoRecording b a e = absurd a
end_one rest a NoRecording e b = absurd b

-- ---- the whole

unbegun : (bytes rest : List ℕ) (chunks : List Chunk) → Records bytes false chunks rest → bytes ≡ rest
unbegun bytes rest chunks r = r.whole ∙ ap (λ cs. flat_map chunk_bytes cs ++ rest) (r.none refl)

no_recording : (bytes rest : List ℕ) (chunks : List Chunk) (end : End) → EndsBy false rest end → Records bytes false chunks rest → (end ≡ NoRecording) × ((more : List ℕ) → bytes ≢ magic ++ more)
no_recording bytes rest chunks Whole e r = absurd e
no_recording bytes rest chunks Cut e r = absurd e
no_recording bytes rest chunks NoChunk e r = absurd e
no_recording bytes rest chunks NoRecording e r = (refl, λ more same. e more (sym (unbegun bytes rest chunks r) ∙ same))

magic_first : (bytes rest : List ℕ) (chunks : List Chunk) → Records bytes true chunks rest → bytes ≡ magic ++ (flat_map chunk_bytes chunks ++ rest)
magic_first bytes rest chunks r = r.whole ∙ append_assoc magic (flat_map chunk_bytes chunks) rest

lines_one : (one_text : OneText) (one_day : OneDay) (view : View) (marking : Marking) (cs ds : List Chunk) (lines others : List ℕ) (to too : Talk) → ListsChunks view (begins marking) cs lines to → ListsChunks view (begins marking) ds others too → cs ≡ ds → lines ++ last_lines view to ≡ others ++ last_lines view too
lines_one one_text one_day view marking cs ds lines others to too a b e =
    let one = listed_one one_text one_day view to too (begins marking) cs ds lines others (chunks_of view (begins marking) to cs lines a) (chunks_of view (begins marking) too ds others b) e in
    ap (λ l. l ++ last_lines view to) one.0 ∙ ap (λ t. others ++ last_lines view t) one.1

by_begun : (one_text : OneText) (one_day : OneDay) (view : View) (marking : Marking) (bytes x y lines others : List ℕ) (p q : Bool) (a b : End) (to too : Talk) (m : HasLines view marking bytes p x lines to) (n : HasLines view marking bytes q y others too) → EndsBy p x a → EndsBy q y b
    → (a ≡ b) × (lines ++ last_lines view to ≡ others ++ last_lines view too)
by_begun one_text one_day view marking bytes x y lines others true true a b to too m n ea eb =
    let same = chunks_one m.chunks n.chunks x y m.records.each n.records.each (ends_none x a ea) (ends_none y b eb)
    (sym (drop-append_seam magic (flat_map chunk_bytes m.chunks ++ x)) ∙ ap (drop 20) (sym (magic_first bytes x m.chunks m.records) ∙ magic_first bytes y n.chunks n.records) ∙ drop-append_seam magic (flat_map chunk_bytes n.chunks ++ y)) in
    (end_one y a b (subst (λ l. EndsBy true l a) same.1 ea) eb, lines_one one_text one_day view marking m.chunks n.chunks lines others to too m.each n.each same.0)
by_begun one_text one_day view marking bytes x y lines others false false a b to too m n ea eb =
    ((no_recording bytes x m.chunks a ea m.records).0 ∙ sym (no_recording bytes y n.chunks b eb n.records).0, lines_one one_text one_day view marking m.chunks n.chunks lines others to too m.each n.each (m.records.none refl ∙ sym (n.records.none refl)))
by_begun one_text one_day view marking bytes x y lines others true false a b to too m n ea eb =
    absurd ((no_recording bytes y n.chunks b eb n.records).1 (flat_map chunk_bytes m.chunks ++ x) (magic_first bytes x m.chunks m.records))
by_begun one_text one_day view marking bytes x y lines others false true a b to too m n ea eb =
    absurd ((no_recording bytes x m.chunks a ea m.records).1 (flat_map chunk_bytes n.chunks ++ y) (magic_first bytes y n.chunks n.records))

pub one_listing : (one_text : OneText) (one_day : OneDay) (view : View) (marking : Marking) (bytes output another : List ℕ) (end ending : End) → IsListing view marking bytes end output → IsListing view marking bytes ending another → (end ≡ ending) × (output ≡ another)
one_listing one_text one_day view marking bytes output another end ending a b =
    let one = by_begun one_text one_day view marking bytes a.rest b.rest a.lines b.lines a.begun b.begun end ending a.talk b.talk a.each b.each a.ending b.ending in
    (one.0, a.text ∙ one.1 ∙ sym b.text)
