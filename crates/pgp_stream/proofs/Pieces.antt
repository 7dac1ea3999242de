-- A stream that goes on by a frame, or by a piece.
use Rattle.pgp_stream.proofs.Common.{◌≡◌, ℕ, ◌+◌, ◌<◌, ◌≤◌, Bool, true, false, List, [], ◌∷◌, ◌++◌, length, take, drop, get_or, Option, Some, Result, refl, sym, ap, subst, ◌∙◌, append_assoc, arith, IfSome, flat_map, take-length, take_more, take-append-drop, append-nil, length-drop, Error, Message, uint32, Memory, Fits, header_of, headers_read, Found, FindsAll, TakesEach, TakesSome, Reading, GoesOn, Fails, Takes, TakesAll, Moves, TakesPart, kept_or_piece}
use Rattle.std.proofs.lemmas.Bool.{true≢false}
use Rattle.std.proofs.lemmas.List.{length-append}
use Rattle.std.proofs.lemmas.List.Concat.{flat_map-cons}
use Rattle.std.proofs.lemmas.Grind.{flat_map-append}
use Rattle.pgp_message.specs.Stream.{frame_bytes, Frames, IsEnding, BackendRun}
use Rattle.pgp_message.proofs.Fronts.{fault_stays}
use Rattle.pgp_message.proofs.Headers.{fits_grows, fits_itself, header_of_long, header_stays}
use Rattle.pgp_message.proofs.Runs.{frames_join}

-- where a length fault stopped it a header stands there
pub stopped_long : (stopped : Bool) (rest : List ℕ) → IsEnding stopped rest → stopped ≡ true → 5 ≤ length rest
unfolding uint32
stopped_long true rest fault s = omega (arith, ap length fault.header.parts, length-append (uint32 fault.header.len) fault.header.rest)
stopped_long false rest fault s = cc

-- bytes that come after a header leave it
pub header_of_more : (bytes more : List ℕ) → 5 ≤ length bytes → header_of (bytes ++ more) ≡ header_of bytes
header_of_more bytes more h = header_stays bytes more _ (header_of_long bytes h) ∙ sym (header_of_long bytes h)

-- bytes came after what was read
frames_behind : (a old more : List ℕ) (results : List (Result Message Error)) → Frames a results old → Frames (a ++ more) results (old ++ more)
frames_behind a old more results f = record {
  frames = f.frames;
  whole = ap (λ l. l ++ more) f.whole ∙ append_assoc (flat_map frame_bytes f.frames) old more;
  each = f.each;
  bodies = f.bodies;
}

-- frames after frames
frames_chained : (a b c : List ℕ) (first second : List (Result Message Error)) → Frames a first b → Frames b second c → Frames a (first ++ second) c
frames_chained a b c first second p q =
    subst (λ l. Frames l (first ++ second) c) (append-nil a) (frames_join a [] b c first second p (subst (λ l. Frames l second c) (sym (append-nil b)) q))

-- ---- a frame that was cut

-- A frame is completed from the front of a piece, of which some is left. What was read so far is used stopped.
pub record Completing (old piece left now : List ℕ) (before mid : List (Result Message Error)) (m n : Memory) : Type 0 where
  pub done : List ℕ
  pub whole : piece ≡ done ++ left
  pub takes : Takes (old ++ done) now before mid m n

pub completing_none : (old piece : List ℕ) (before : List (Result Message Error)) (m : Memory) → Frames old [] old → Fits m old → Completing old piece piece old before before m m
completing_none old piece before m none fits =
    let nothing : Takes old old before before m m = record {
      more = [];
      grown = sym (append-nil before);
      frames = none;
      fits = fits;
      counted = λ k c. c ∙ ap (λ j. headers_read j m.header) (omega arith);
    } in
    record { done = []; whole = refl; takes = subst (λ l. Takes l old before before m m) (sym (append-nil old)) nothing }

-- more of the piece is read
pub completing_more : (old piece left more after now grown : List ℕ) (before mid : List (Result Message Error)) (m n : Memory) → Completing old piece left now before mid m n → left ≡ more ++ after
    → grown ≡ now ++ more → Completing old piece after grown before mid m n
completing_more old piece left more after now grown before mid m n c parts is =
    let t = c.takes in
    let behind : Takes ((old ++ c.done) ++ more) (now ++ more) before mid m n = record { more = t.more; grown = t.grown; frames = frames_behind (old ++ c.done) now more t.more t.frames; fits = fits_grows n now more t.fits; counted = t.counted } in
    record {
      done = c.done ++ more;
      whole = c.whole ∙ ap (λ l. c.done ++ l) parts ∙ sym (append_assoc c.done more after);
      takes = subst (λ l. Takes l grown before mid m n) (append_assoc old c.done more) (subst (λ l. Takes ((old ++ c.done) ++ more) l before mid m n) (sym is) behind);
    }

-- all frames of what stands there were taken
pub completing_reads : (old piece left now new : List ℕ) (before mid after : List (Result Message Error)) (m n o : Memory) (stopped : Bool) → Completing old piece left now before mid m n
    → TakesAll now new mid after n o stopped → Completing old piece left new before after m o
completing_reads old piece left now new before mid after m n o stopped c all =
    let t = c.takes in
    let u = all.takes in
    let len : length (t.more ++ u.more) ≡ length t.more + length u.more = length-append t.more u.more in
    record {
      done = c.done;
      whole = c.whole;
      takes = record {
        more = t.more ++ u.more;
        grown = u.grown ∙ ap (λ l. l ++ u.more) t.grown ∙ append_assoc before t.more u.more;
        frames = frames_chained (old ++ c.done) now new t.more u.more t.frames u.frames;
        fits = u.fits;
        counted = λ k e.
            let sum : (k + length t.more) + length u.more ≡ k + length (t.more ++ u.more) = omega (arith, len) in
            u.counted (k + length t.more) (t.counted k e) ∙ ap (λ j. headers_read j o.header) sum;
      };
    }

-- all of the piece was read
pub completing_ends : (old piece left now new : List ℕ) (before mid after : List (Result Message Error)) (m n o : Memory) (stopped : Bool) → Completing old piece left now before mid m n → left ≡ []
    → TakesAll now new mid after n o stopped → TakesAll (old ++ piece) new before after m o stopped
completing_ends old piece left now new before mid after m n o stopped c none all =
    let read = completing_reads old piece left now new before mid after m n o stopped c all in
    let whole : piece ≡ read.done = read.whole ∙ ap (λ l. read.done ++ l) none ∙ append-nil read.done in
    record { takes = subst (λ l. Takes (old ++ l) new before after m o) (sym whole) read.takes; ending = all.ending; header = all.header }

-- a length fault stands there, and what is left of the piece is kept after it
pub completing_stops : (old piece left now new kept : List ℕ) (before mid after : List (Result Message Error)) (m n o : Memory) (stopped : Bool) → Completing old piece left now before mid m n → stopped ≡ true
    → TakesAll now new mid after n o stopped → kept ≡ new ++ left → TakesAll (old ++ piece) kept before after m o true
completing_stops old piece left now new kept before mid after m n o stopped c stops all is =
    let r = completing_reads old piece left now new before mid after m n o stopped c all in
    let t = r.takes in
    let fault : IsEnding true new = subst (λ b. IsEnding b new) stops all.ending in
    let whole : (old ++ r.done) ++ left ≡ old ++ piece = append_assoc old r.done left ∙ ap (λ l. old ++ l) (sym r.whole) in
    let behind : TakesAll ((old ++ r.done) ++ left) (new ++ left) before after m o true = record {
      takes = record { more = t.more; grown = t.grown; frames = frames_behind (old ++ r.done) new left t.more t.frames; fits = fits_grows o new left t.fits; counted = t.counted };
      ending = fault_stays new left fault;
      header = all.header ∙ sym (header_of_more new left (stopped_long true new fault refl));
    } in
    subst (λ l. TakesAll (old ++ piece) l before after m o true) (sym is) (subst (λ l. TakesAll l (new ++ left) before after m o true) whole behind)

-- memory was refused
pub completing_fails : (old piece left now : List ℕ) (before mid after : List (Result Message Error)) (m n : Memory) → Completing old piece left now before mid m n → after ≡ mid → TakesSome (old ++ piece) before after
completing_fails old piece left now before mid after m n c same =
    let whole : (old ++ c.done) ++ left ≡ old ++ piece = append_assoc old c.done left ∙ ap (λ l. old ++ l) (sym c.whole) in
    let t = c.takes in
    record { more = t.more; grown = same ∙ t.grown; left = now ++ left; frames = subst (λ l. Frames l t.more (now ++ left)) whole (frames_behind (old ++ c.done) now left t.more t.frames) }

-- memory was refused after some frames more
pub completing_some : (old piece left now : List ℕ) (before mid after : List (Result Message Error)) (m n : Memory) → Completing old piece left now before mid m n → TakesSome now mid after
    → TakesSome (old ++ piece) before after
completing_some old piece left now before mid after m n c some =
    let t = c.takes in
    let whole : (old ++ c.done) ++ left ≡ old ++ piece = append_assoc old c.done left ∙ ap (λ l. old ++ l) (sym c.whole) in
    let frames = frames_chained (old ++ c.done) now some.left t.more some.more t.frames some.frames in
    record {
      more = t.more ++ some.more;
      grown = some.grown ∙ ap (λ l. l ++ some.more) t.grown ∙ append_assoc before t.more some.more;
      left = some.left ++ left;
      frames = subst (λ l. Frames l (t.more ++ some.more) (some.left ++ left)) whole (frames_behind (old ++ c.done) some.left left (t.more ++ some.more) frames);
    }

-- so many bytes of what is left are after what is kept
pub completing_by : (old piece left after now grown : List ℕ) (before mid : List (Result Message Error)) (m n : Memory) (k : ℕ) → Completing old piece left now before mid m n → grown ≡ now ++ take k left → after ≡ drop k left
    → Completing old piece after grown before mid m n
completing_by old piece left after now grown before mid m n k c is rest =
    completing_more old piece left (take k left) after now grown before mid m n c (sym (take-append-drop k left) ∙ ap (λ l. take k left ++ l) (sym rest)) is

pub part_read : (old piece left after now new : List ℕ) (before mid read : List (Result Message Error)) (m n o : Memory) (used : ℕ) (stopped : Bool) → Completing old piece left now before mid m n → TakesPart now new left mid read n o used stopped
    → after ≡ drop used left → Completing old piece after new before read m o
part_read old piece left after now new before mid read m n o used stopped c part is =
    completing_reads old piece after (now ++ take used left) new before mid read m n o stopped (completing_by old piece left after now _ before mid m n used c refl is) part.all

pub part_ends : (old piece left after now new : List ℕ) (before mid read : List (Result Message Error)) (m n o : Memory) (used : ℕ) (stopped : Bool) → Completing old piece left now before mid m n → TakesPart now new left mid read n o used stopped
    → after ≡ drop used left → after ≡ [] → stopped ≡ false → TakesAll (old ++ piece) new before read m o false
part_ends old piece left after now new before mid read m n o used stopped c part is none goes =
    subst (λ b. TakesAll (old ++ piece) new before read m o b) goes
    (completing_ends old piece after (now ++ take used left) new before mid read m n o stopped (completing_by old piece left after now _ before mid m n used c refl is) none part.all)

pub part_stops : (old piece left after now new kept : List ℕ) (before mid read : List (Result Message Error)) (m n o : Memory) (used : ℕ) (stopped : Bool) → Completing old piece left now before mid m n → TakesPart now new left mid read n o used stopped
    → after ≡ drop used left → stopped ≡ true → kept ≡ new ++ after → TakesAll (old ++ piece) kept before read m o true
part_stops old piece left after now new kept before mid read m n o used stopped c part is stops behind =
    completing_stops old piece after (now ++ take used left) new kept before mid read m n o stopped (completing_by old piece left after now _ before mid m n used c refl is) stops part.all behind

pub part_fails : (old piece left now : List ℕ) (before mid read : List (Result Message Error)) (m n : Memory) → Completing old piece left now before mid m n → TakesSome (now ++ left) mid read → TakesSome (old ++ piece) before read
part_fails old piece left now before mid read m n c some =
    completing_some old piece [] (now ++ left) before mid read m n (completing_more old piece left left [] now (now ++ left) before mid m n c (sym (append-nil left)) refl) some

-- a part goes on only after a frame that was completed
pub part_shorter : (now grown left behind after new : List ℕ) (mid read : List (Result Message Error)) (n o : Memory) (k : ℕ) (used : ℕ) (stopped : Bool) → Moves now grown left k → behind ≡ drop k left → TakesPart grown new behind mid read n o used stopped
    → after ≡ drop used behind → 0 < length after → length after < length left
part_shorter [] grown left behind after new mid read n o k used stopped moves is part rest more =
    let none : k ≡ 0 = moves.none refl in
    let empty : grown ≡ [] = moves.grown ∙ ap (λ j. take j left) none in
    absurd (omega (arith, more, ap length rest, length-drop used behind, part.last empty))
part_shorter (b ∷ now) grown left behind after new mid read n o k used stopped moves is part rest more =
    omega (arith, more, ap length rest, length-drop used behind, ap length is, length-drop k left, moves.some (omega arith) (omega (arith, more, ap length rest, length-drop used behind, ap length is, length-drop k left)))

-- ---- what is read next

pub next_kept : (old piece : List ℕ) → 0 < length old → kept_or_piece old piece ≡ old
next_kept [] piece h = absurd (omega (arith, h))
next_kept (b ∷ old) piece h = refl

pub next_piece : (old piece : List ℕ) → length old ≡ 0 → kept_or_piece old piece ≡ piece
next_piece [] piece h = refl
next_piece (b ∷ old) piece h = absurd (omega (arith, h))

pub some_of_next : (old piece : List ℕ) (before after : List (Result Message Error)) → TakesSome (kept_or_piece old piece) before after → TakesSome (old ++ piece) before after
some_of_next [] piece before after some = some
some_of_next (b ∷ old) piece before after some = record { more = some.more; grown = some.grown; left = some.left ++ piece; frames = frames_behind (b ∷ old) some.left piece some.more some.frames }

-- the frames of what is kept were taken, and no byte of the piece
pub part_of_kept : (old new piece : List ℕ) (before after : List (Result Message Error)) (m n : Memory) (stopped : Bool) → 0 < length old → TakesAll old new before after m n stopped
    → TakesPart old new piece before after m n 0 stopped
part_of_kept old new piece before after m n stopped some all = record {
  most = omega arith;
  all = subst (λ l. TakesAll l new before after m n stopped) (sym (append-nil old)) all;
  last = λ none. absurd (omega (arith, some, ap length none));
  kept = λ more. refl;
}

-- those of the whole piece were taken
pub part_of_piece : (old new piece : List ℕ) (before after : List (Result Message Error)) (m n : Memory) (stopped : Bool) → length old ≡ 0 → TakesAll piece new before after m n stopped
    → TakesPart old new piece before after m n (length piece) stopped
part_of_piece [] new piece before after m n stopped none all = record {
  most = omega arith;
  all = subst (λ l. TakesAll l new before after m n stopped) (sym (take-length piece)) all;
  last = λ e. refl;
  kept = λ more. absurd (omega (arith, more));
}
part_of_piece (b ∷ old) new piece before after m n stopped none all = absurd (omega (arith, none))

-- all were taken: these are some
pub some_of_all : (old new : List ℕ) (before after : List (Result Message Error)) (m n : Memory) (stopped : Bool) → TakesAll old new before after m n stopped → TakesSome old before after
some_of_all old new before after m n stopped all = record { more = all.takes.more; grown = all.takes.grown; left = new; frames = all.takes.frames }

-- ---- the complete frames of a piece

pub whole_taken : (piece kept : List ℕ) (before after : List (Result Message Error)) (m n : Memory) (found : Found) → FindsAll piece m n found
    → TakesEach (take found.len piece) found.count before after → kept ≡ drop found.len piece → TakesAll piece kept before after m n found.stopped
whole_taken piece kept before after m n found all each is =
    let front = take found.len piece in
    let rest = drop found.len piece in
    let here : TakesAll (front ++ rest) rest before after m n found.stopped = record {
      takes = record {
        more = each.more;
        grown = each.grown;
        frames = frames_behind front [] rest each.more each.frames;
        fits = subst (λ (h : Option (ℕ × ℕ)). IfSome h (λ x. header_of rest ≡ Some x)) (sym all.header) (fits_itself rest n.headers);
        counted = λ k c. omega (arith, c, each.count, all.one_each, all.counted (omega (arith, c)));
      };
      ending = all.finds.ending;
      header = all.header;
    } in
    subst (λ l. TakesAll piece l before after m n found.stopped) (sym is) (subst (λ l. TakesAll l rest before after m n found.stopped) (take-append-drop found.len piece) here)

pub whole_some : (piece : List ℕ) (before after : List (Result Message Error)) (k : ℕ) → TakesSome (take k piece) before after → TakesSome piece before after
whole_some piece before after k some =
    let rest = drop k piece in
    let frames = frames_behind (take k piece) some.left rest some.more some.frames in
    record { more = some.more; grown = some.grown; left = some.left ++ rest; frames = subst (λ l. Frames l some.more (some.left ++ rest)) (take-append-drop k piece) frames }

-- ---- what is shown of a piece

-- a piece came after frames that wait
pub goes_on : (piece left : List ℕ) (old : Reading) (after : List (Result Message Error)) (m n : Memory) (stops : Bool)
    → old.failed ≡ false → old.stopped ≡ false → old.headers ≡ m.headers → m.header ≡ header_of old.rest
    → TakesAll (old.rest ++ piece) left old.results after m n stops
    → ((bytes more rest left : List ℕ) (first second : List (Result Message Error)) (stops : Bool) → BackendRun bytes first false rest → BackendRun (rest ++ more) second stops left → BackendRun (bytes ++ more) (first ++ second) stops left)
    → GoesOn piece old (record { results = after; stopped = stops; rest = left; headers = n.headers; failed = old.failed })
goes_on piece left old after m n stops sound waits count header all join =
    let more = all.takes.more in
    record {
      sound = sound;
      more = more;
      grown = all.takes.grown;
      reads = λ bytes taken run.
          let first = taken ++ old.results in
          let both : first ++ more ≡ taken ++ after = append_assoc taken old.results more ∙ ap (λ l. taken ++ l) (sym all.takes.grown) in
          subst (λ l. BackendRun (bytes ++ piece) l stops left) both
          (join bytes piece old.rest left first more stops (subst (λ b. BackendRun bytes first b old.rest) waits run) (record { run = all.takes.frames; ending = all.ending }));
      counts = λ taken h.
          let before = taken + length old.results in
          let sum : before + length more ≡ taken + length after = omega (arith, ap length all.takes.grown, length-append old.results more) in
          all.takes.counted before (sym count ∙ h ∙ ap (headers_read before) (sym header)) ∙ ap (λ k. headers_read k n.header) sum ∙ ap (headers_read (taken + length after)) all.header;
    }

-- a piece came after a length fault
pub stays_stopped : (piece rest : List ℕ) (old : Reading) → old.failed ≡ false → old.stopped ≡ true → 5 ≤ length old.rest → rest ≡ old.rest ++ piece
    → ((bytes more rest : List ℕ) (results : List (Result Message Error)) → BackendRun bytes results true rest → BackendRun (bytes ++ more) results true (rest ++ more))
    → GoesOn piece old (record { results = old.results; stopped = old.stopped; rest = rest; headers = old.headers; failed = old.failed })
stays_stopped piece rest old sound stopped long is stays = record {
  sound = sound;
  more = [];
  grown = sym (append-nil old.results);
  reads = λ bytes taken h.
      let all = taken ++ old.results in
      let run : BackendRun (bytes ++ piece) all true (old.rest ++ piece) = stays bytes piece old.rest all (subst (λ b. BackendRun bytes all b old.rest) stopped h) in
      subst (λ b. BackendRun (bytes ++ piece) all b rest) (sym stopped) (subst (λ l. BackendRun (bytes ++ piece) all true l) (sym is) run);
  counts = λ taken h. h ∙ ap (headers_read (taken + length old.results)) (sym (ap header_of is ∙ header_of_more old.rest piece long));
}

-- the piece couldn't be kept
pub fails_at_once : (piece : List ℕ) (old new : Reading) → old.stopped ≡ true → new.failed ≡ true → new.stopped ≡ old.stopped → new.results ≡ old.results → new.rest ≡ old.rest → new.headers ≡ old.headers
    → ((bytes more : List ℕ) (first second : List (Result Message Error)) (stops halts : Bool) (rest left : List ℕ) → BackendRun bytes first stops rest → BackendRun (bytes ++ more) second halts left → (others : List (Result Message Error)) × (second ≡ first ++ others))
    → Fails piece old new
fails_at_once piece old new stopped failed still same rest headers grow = record {
  failed = failed;
  stopped = still;
  kept = λ _. (rest, headers);
  dropped = λ goes. absurd (true≢false (sym stopped ∙ goes));
  more = [];
  grown = same ∙ sym (append-nil old.results);
  reads = λ bytes taken h all stopped rest run. subst (λ l. (others : List (Result Message Error)) × (all ≡ l ++ others)) (ap (λ l. taken ++ l) (sym same)) (grow bytes piece (taken ++ old.results) all old.stopped stopped old.rest rest h run);
}

-- memory was refused after some frames
pub fails_behind : (piece : List ℕ) (old new : Reading) → old.stopped ≡ false → new.failed ≡ true → new.stopped ≡ old.stopped → new.rest ≡ [] → new.headers ≡ 0 → TakesSome (old.rest ++ piece) old.results new.results
    → ((bytes more rest left : List ℕ) (first second : List (Result Message Error)) → Frames bytes first rest → Frames (rest ++ more) second left → Frames (bytes ++ more) (first ++ second) left)
    → ((bytes more : List ℕ) (first second : List (Result Message Error)) (halts : Bool) (rest left : List ℕ) → Frames bytes first rest → BackendRun (bytes ++ more) second halts left → (others : List (Result Message Error)) × (second ≡ first ++ others))
    → Fails piece old new
fails_behind piece old new goes failed still rest headers some join stand = record {
  failed = failed;
  stopped = still;
  kept = λ stopped. absurd (true≢false (sym stopped ∙ goes));
  dropped = λ _. (rest, headers);
  more = some.more;
  grown = some.grown;
  reads = λ bytes taken h all stopped rest run.
      let first = taken ++ old.results in
      let both : first ++ some.more ≡ taken ++ new.results = append_assoc taken old.results some.more ∙ ap (λ l. taken ++ l) (sym some.grown) in
      let frames : Frames (bytes ++ piece) (first ++ some.more) some.left = join bytes piece old.rest some.left first some.more h.run some.frames in
      let whole : BackendRun ((bytes ++ piece) ++ []) all stopped rest = subst (λ l. BackendRun l all stopped rest) (sym (append-nil (bytes ++ piece))) run in
      subst (λ l. (others : List (Result Message Error)) × (all ≡ l ++ others)) both (stand (bytes ++ piece) [] (first ++ some.more) all stopped some.left rest frames whole);
}

-- one more piece
pub piece_more : {X : Type 0} (f : X → List ℕ) (xs : List X) (i : ℕ) (d : X) → i < length xs → flat_map f (take (i + 1) xs) ≡ flat_map f (take i xs) ++ f (get_or xs i d)
piece_more f xs i d lt = ap (flat_map f) (take_more xs i d lt) ∙ flat_map-append f (take i xs) (get_or xs i d ∷ [])
    ∙ ap (λ l. flat_map f (take i xs) ++ l) (flat_map-cons f (get_or xs i d) [] ∙ append-nil (f (get_or xs i d)))
