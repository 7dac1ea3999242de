-- The lines of a stream, a frame and a piece at a time.
use Rattle.pgtrace_lines.proofs.Common.{◌≡◌, ◌⊎◌, ℕ, ◌+◌, ◌-◌, ◌≤◌, Bool, true, false, List, [], ◌++◌, length, take, drop, min, Option, Result, Ok, Err, refl, sym, ap, subst, ◌∙◌, arith, inl, inr, length-append, append_assoc, IfOk, IfSome, OnOk, OnErr, Appends, Consumes, Keeps, IsAtEnd, Appends-nil, Appends-trans, Consumes-nil, Consumes-trans, Consumes-kept, Consumes-whole, min-eq_left, min-le_right, append-nil, length-take, View, shown, Listed, Lines, NoLines, place_behind, last_line, IsReady, WasListed, WritesListing, IsCutShort, Side, Ends, HasLine, ListsAll, ListsSome, Held, Holds, ListsPiece, AppendsFront, greatest, true≢false}
use Rattle.pgp_base.proofs.Parts.{on_err}
use Rattle.pgtrace_lines.specs.Hints.{hint_of}
use Rattle.pgtool_line.specs.Run.{Streams}
use Rattle.pgtrace_lines.proofs.Ends.{stays_ended, nothing_ends}
use Rattle.pgtrace_lines.proofs.Fronts.{none_taken, all_taken, more_taken, kept_nothing}
use Rattle.pgtrace_lines.proofs.Parts.{saturates}
use Rattle.pgtrace_lines.proofs.Rows.{RowsTo, counted_on, one_listed, rows_join}

-- ---- lines after lines

plain_sum : (n : ℕ) → 0 + n ≡ n
plain_sum n = omega arith

plain_end : (n : ℕ) → n ≡ n + 0
plain_end n = omega arith

same_place : (a b : List ℕ) → place_behind (place_behind (length a) + length b) ≡ place_behind (0 + length (a ++ b))
same_place a b =
    let sum : length a + length b ≡ 0 + length (a ++ b) = omega (arith, length-append a b) in
    saturates (length a) (length b) greatest ∙ ap place_behind sum

-- lines at the place behind others
lines_join : (view : View) (from mid to : Side) (place : ℕ) (a lines b more : List ℕ) → Lines view 0 from a lines mid → place ≡ place_behind (length a) → Lines view place mid b more to → Lines view 0 from (a ++ b) (lines ++ more) to
lines_join view from mid to place a lines b more first at then =
    rows_join (Listed view) 0 from mid a lines first b more to (counted_on (Listed view) (0 + length a) mid to b more (subst (λ p. Lines view p mid b more to) (at ∙ ap place_behind (sym (plain_sum (length a)))) then))

-- ---- a frame at a time

-- one more has its line, which stands after those
pub line_listed : (view : View) (start here : ℕ) (from mid to : Side) (bytes rest next line name old now new : List ℕ) → RowsTo (Listed view) start from bytes rest mid old now
    → here ≡ min (start + (length bytes - length rest)) greatest → HasLine view.style here mid rest next line to name → new ≡ now ++ shown view name line → RowsTo (Listed view) start from bytes next to old new
line_listed view start here from mid to bytes rest next line name old now new so_far at has grown =
    one_listed (Listed view) start here from mid to bytes rest has.frame next (shown view name line) old now new so_far at has.whole (record { line = line; reported = has.reported; is = ap (λ n. shown view n line) has.named }) grown

-- ---- a piece at a time

-- what a piece comes to, whatever wasn't listed
abbrev pub Lists : View → List ℕ → Held → Held → Option (List ℕ) → Option (List ℕ) → Type 0
Lists view piece before after old new = (rest : List ℕ) → Holds before rest → ListsPiece view before.place before.side (rest ++ piece) after old new

abbrev pub Stops : View → List ℕ → Held → Option (List ℕ) → Option (List ℕ) → Type 0
Stops view piece before old new = (rest : List ℕ) → Holds before rest → ListsSome view before.place before.side (rest ++ piece) old new

-- of a stream that is stopped the bytes are counted
pub piece_counted : (view : View) (side : Side) (place left count : ℕ) (bytes piece : List ℕ) (halted : Bool) (old new : Option (List ℕ))
    → halted ≡ true → count ≡ min (left + length piece) greatest → Keeps old new
    → Lists view piece (record { side = side; bytes = bytes; place = place; stopped = halted; left = left }) (record { side = side; bytes = bytes; place = place; stopped = halted; left = count }) old new
piece_counted view side place left count bytes piece halted old new stands counts kept rest holds = record {
  front = [];
  rest = rest ++ piece;
  lines = [];
  whole = refl;
  listed = NoLines;
  holds = record {
    ending = subst (λ s. Ends side s (rest ++ piece)) (sym stands) (stays_ended side rest piece (subst (λ s. Ends side s rest) stands holds.ending));
    count = counts ∙ ap (λ n. min (n + length piece) greatest) holds.count ∙ saturates (length rest) (length piece) greatest ∙ ap place_behind (sym (length-append rest piece));
    small = holds.small;
    bytes = λ e. absurd (true≢false (sym stands ∙ e));
  };
  moved = sym (min-eq_left holds.small) ∙ ap place_behind (plain_end place);
  written = kept_nothing old new kept;
}

-- the frames that are whole with it were listed
pub piece_listed : (view : View) (from to : Side) (place was n moved count : ℕ) (bytes piece items left text : List ℕ) (halted stopped : Bool) (old new : Option (List ℕ))
    → halted ≡ false → items ≡ bytes ++ piece
    → ListsAll view place from items (take n items) (drop n items) stopped to [] text → n ≤ length items → left ≡ drop n items
    → moved ≡ min (place + n) greatest → count ≡ length left → count ≤ greatest → Appends old new text
    → Lists view piece (record { side = from; bytes = bytes; place = place; stopped = halted; left = was }) (record { side = to; bytes = left; place = moved; stopped = stopped; left = count }) old new
piece_listed view from to place was n moved count bytes piece items left text halted stopped old new goes grown all le cut moves counts small wrote rest holds =
    let same : rest ++ piece ≡ items = ap (λ l. l ++ piece) (sym (holds.bytes goes)) ∙ sym grown in
    let long : length (take n items) ≡ n = omega (arith, length-take n items, le) in
    record {
      front = take n items;
      rest = left;
      lines = all.lines;
      whole = same ∙ all.whole ∙ ap (λ l. take n items ++ l) (sym cut);
      listed = all.listed;
      holds = record {
        ending = subst (Ends to stopped) (sym cut) all.ending;
        count = sym (min-eq_left small) ∙ ap place_behind counts;
        small = subst (λ k. k ≤ greatest) (sym moves) (min-le_right (place + n) greatest);
        bytes = λ e. refl;
      };
      moved = moves ∙ ap (λ k. place_behind (place + k)) (sym long);
      written = subst (Appends old new) all.text wrote;
    }

-- nothing was listed
none_of_piece : (view : View) (place : ℕ) (from : Side) (bytes : List ℕ) (old new : Option (List ℕ)) → Keeps old new → ListsSome view place from bytes old new
none_of_piece view place from bytes old new kept = record {
  to = from;
  front = [];
  rest = bytes;
  lines = [];
  whole = refl;
  listed = NoLines;
  written = all_taken old new [] (kept_nothing old new kept);
}

-- a front of the lines was written
pub front_of_piece : (view : View) (from to : Side) (place was n : ℕ) (bytes piece items text : List ℕ) (halted stopped : Bool) (old new : Option (List ℕ))
    → halted ≡ false → items ≡ bytes ++ piece
    → ListsAll view place from items (take n items) (drop n items) stopped to [] text → AppendsFront old new text
    → Stops view piece (record { side = from; bytes = bytes; place = place; stopped = halted; left = was }) old new
front_of_piece view from to place was n bytes piece items text halted stopped old new goes grown all taken rest holds =
    subst (λ l. ListsSome view place from l old new) (grown ∙ ap (λ l. l ++ piece) (holds.bytes goes)) (record {
      to = to;
      front = take n items;
      rest = drop n items;
      lines = all.lines;
      whole = all.whole;
      listed = all.listed;
      written = subst (AppendsFront old new) all.text taken;
    })

-- what a call returns of these
pub on_ok : {T E : Type 0} {P : Type 0} (r : Result T E) → P → OnOk r P
on_ok (Ok x) p = p
on_ok (Err e) p = tt

pub ok_then : {T E P Q : Type 0} (r : Result T E) → (P → Q) → OnOk r P → OnOk r Q
ok_then (Ok x) f p = f p
ok_then (Err e) f p = tt

pub err_then : {T E P Q : Type 0} (r : Result T E) → (P → Q) → OnErr r P → OnErr r Q
err_then (Ok x) f p = tt
err_then (Err e) f p = f p

pub err_counted : {T E : Type 0} (r : Result T E) (view : View) (piece : List ℕ) (held : Held) (old new : Option (List ℕ)) → Keeps old new → OnErr r (Stops view piece held old new)
err_counted r view piece held old new kept = on_err r (Stops view piece held old new) (λ rest holds. none_of_piece view held.place held.side (rest ++ piece) old new kept)

-- ---- the whole stream

-- what came so far was listed, and this is kept of the rest
pub record Tracks (view : View) (from : Side) (before after : Streams) (held : Held) : Type 0 where
  pub front : List ℕ
  pub rest : List ℕ
  pub lines : List ℕ
  pub received : Consumes before.input after.input (front ++ rest)
  pub listed : Lines view 0 from front lines held.side
  pub holds : Holds held rest
  pub place : held.place ≡ place_behind (length front)
  pub written : Appends before.output after.output lines

pub tracks_start : (view : View) (from : Side) (s : Streams) (bytes : List ℕ) → bytes ≡ [] → Tracks view from s s (record { side = from; bytes = bytes; place = 0; stopped = false; left = 0 })
tracks_start view from s bytes e = record {
  front = [];
  rest = [];
  lines = [];
  received = Consumes-nil s.input;
  listed = NoLines;
  holds = record { ending = nothing_ends from; count = refl; small = omega arith; bytes = λ h. e };
  place = refl;
  written = Appends-nil s.output;
}

pub tracks_none : (view : View) (from : Side) (before : Streams) (now next output : Option (List ℕ)) (held : Held) → Tracks view from before (record { input = now; output = output }) held → Consumes now next []
    → Tracks view from before (record { input = next; output = output }) held
tracks_none view from before now next output held t none = record {
  front = t.front;
  rest = t.rest;
  lines = t.lines;
  received = subst (Consumes before.input next) (append-nil (t.front ++ t.rest)) (Consumes-trans before.input now next (t.front ++ t.rest) [] t.received none);
  listed = t.listed;
  holds = t.holds;
  place = t.place;
  written = t.written;
}

-- nothing came
pub tracks_same : (view : View) (from : Side) (before after : Streams) (held : Held) (next : Option (List ℕ)) → Tracks view from before after held → Keeps after.input next → Tracks view from before (record { input = next; output = after.output }) held
tracks_same view from before after held next t kept = record {
  front = t.front;
  rest = t.rest;
  lines = t.lines;
  received = Consumes-kept before.input after.input next (t.front ++ t.rest) t.received kept;
  listed = t.listed;
  holds = t.holds;
  place = t.place;
  written = t.written;
}

received_more : (view : View) (from : Side) (before after : Streams) (held : Held) (t : Tracks view from before after held) (next : Option (List ℕ)) (piece front rest : List ℕ) → Consumes after.input next piece → t.rest ++ piece ≡ front ++ rest
    → Consumes before.input next ((t.front ++ front) ++ rest)
received_more view from before after held t next piece front rest received whole =
    let moved : (t.front ++ t.rest) ++ piece ≡ (t.front ++ front) ++ rest =
    append_assoc t.front t.rest piece ∙ ap (λ l. t.front ++ l) whole ∙ sym (append_assoc t.front front rest) in
    subst (Consumes before.input next) moved (Consumes-trans before.input after.input next (t.front ++ t.rest) piece t.received received)

-- a piece came
pub tracks_piece : (view : View) (from : Side) (before after : Streams) (held new : Held) (next output : Option (List ℕ)) (piece : List ℕ) (t : Tracks view from before after held)
    → Consumes after.input next piece → ListsPiece view held.place held.side (t.rest ++ piece) new after.output output → Tracks view from before (record { input = next; output = output }) new
tracks_piece view from before after held new next output piece t received one = record {
  front = t.front ++ one.front;
  rest = one.rest;
  lines = t.lines ++ one.lines;
  received = received_more view from before after held t next piece one.front one.rest received one.whole;
  listed = lines_join view from held.side new.side held.place t.front t.lines one.front one.lines t.listed t.place one.listed;
  holds = one.holds;
  place = one.moved ∙ ap (λ p. place_behind (p + length one.front)) t.place ∙ same_place t.front one.front ∙ ap place_behind (plain_sum (length (t.front ++ one.front)));
  written = Appends-trans before.output after.output output t.lines one.lines t.written one.written;
}

-- and was listed in part
pub cut_piece : (view : View) (from : Side) (before after : Streams) (held : Held) (next output : Option (List ℕ)) (piece : List ℕ) (t : Tracks view from before after held)
    → Consumes after.input next piece → ListsSome view held.place held.side (t.rest ++ piece) after.output output → IsCutShort view from before (record { input = next; output = output })
cut_piece view from before after held next output piece t received some = record {
  to = some.to;
  front = t.front ++ some.front;
  rest = some.rest;
  lines = t.lines ++ some.lines;
  text = t.lines ++ some.lines;
  received = received_more view from before after held t next piece some.front some.rest received some.whole;
  listed = lines_join view from held.side some.to held.place t.front t.lines some.front some.lines t.listed t.place some.listed;
  due = inl refl;
  written = more_taken before.output after.output output t.lines some.lines t.written some.written;
}

-- reading failed
pub was_listed : (view : View) (from : Side) (before after : Streams) (held : Held) → Tracks view from before after held → WasListed view from before after
was_listed view from before after held t = record {
  stopped = held.stopped;
  rest = t.rest;
  all = record { to = held.side; front = t.front; lines = t.lines; received = t.received; listed = t.listed; ending = t.holds.ending; written = t.written };
}

-- it may be read again
pub ready : {R W : Type 0} (remaining : R → Option (List ℕ)) (contents : W → Option (List ℕ)) (Passed : W → Type 0) (view : View) (from : Side) (reader now : R) (writer out : W) (held : Held) → Tracks view from (record { input = remaining reader; output = contents writer }) (record { input = remaining now; output = contents out }) held → Keeps (contents writer) (contents out) ⊎ Passed out → IsReady remaining contents Passed view from reader writer now
ready remaining contents Passed view from reader now writer out held t p = record {
  out = out;
  listed = was_listed view from (record { input = remaining reader; output = contents writer }) (record { input = remaining now; output = contents out }) held t;
  passed = p;
}

pub cut_here : (view : View) (from : Side) (before after : Streams) (held : Held) → Tracks view from before after held → IsCutShort view from before after
cut_here view from before after held t = record {
  to = held.side;
  front = t.front;
  rest = t.rest;
  lines = t.lines;
  text = t.lines;
  received = t.received;
  listed = t.listed;
  due = inl refl;
  written = all_taken before.output after.output t.lines t.written;
}

-- the end came
pub all_written : (view : View) (from : Side) (before after : Streams) (held : Held) (output : Option (List ℕ)) (said : List ℕ) → Tracks view from before after held → IsAtEnd after.input → Appends after.output output (last_line view held.stopped held.left)
    → said ≡ hint_of false held.side held.left → IfSome before.input (λ bytes. WritesListing view from bytes before.output output said)
all_written view from before after held output said t end last why =
    Consumes-whole before.input after.input (t.front ++ t.rest) (λ bytes. WritesListing view from bytes before.output output said) t.received end (record {
      output = t.lines ++ last_line view held.stopped held.left;
      is = record {
        to = held.side;
        front = t.front;
        rest = t.rest;
        lines = t.lines;
        stopped = held.stopped;
        whole = refl;
        listed = t.listed;
        ending = t.holds.ending;
        text = ap (λ n. t.lines ++ last_line view held.stopped n) t.holds.count;
      };
      written = Appends-trans before.output after.output output t.lines _ t.written last;
      why = why ∙ ap (hint_of false held.side) t.holds.count;
    })

-- and the last line was written in part
pub cut_last : (view : View) (from : Side) (before after : Streams) (held : Held) (output : Option (List ℕ)) → Tracks view from before after held → IsAtEnd after.input → AppendsFront after.output output (last_line view held.stopped held.left)
    → IsCutShort view from before (record { input = after.input; output = output })
cut_last view from before after held output t end last = record {
  to = held.side;
  front = t.front;
  rest = t.rest;
  lines = t.lines;
  text = t.lines ++ last_line view held.stopped held.left;
  received = t.received;
  listed = t.listed;
  due = inr (record { stopped = held.stopped; end = end; ending = t.holds.ending; all = ap (λ n. t.lines ++ last_line view held.stopped n) t.holds.count });
  written = more_taken before.output after.output output t.lines _ t.written last;
}

-- nothing was written
pub cut_nothing : (view : View) (from : Side) (s : Streams) → IsCutShort view from s s
cut_nothing view from s = record {
  to = from;
  front = [];
  rest = [];
  lines = [];
  text = [];
  received = Consumes-nil s.input;
  listed = NoLines;
  due = inl refl;
  written = none_taken s.output [];
}

-- ---- what calls return of these

module _ {T E : Type 0} where
  pub end_written : (r : Result T E) (reported : T → List ℕ) (said : List ℕ) (view : View) (from : Side) (before : Streams) (now next middle output : Option (List ℕ)) (held : Held) → Tracks view from before (record { input = now; output = middle }) held
      → Consumes now next [] → IsAtEnd next → OnOk r (Appends middle output (last_line view held.stopped held.left)) → IfOk r (λ x. reported x ≡ said) → said ≡ hint_of false held.side held.left
      → IfOk r (λ x. IfSome before.input (λ bytes. WritesListing view from bytes before.output output (reported x)))
  end_written (Ok x) reported said view from before now next middle output held t none end last same why =
      all_written view from before (record { input = next; output = middle }) held output (reported x) (tracks_none view from before now next middle held t none) end last (same ∙ why)
  end_written (Err e) reported said view from before now next middle output held t none end last same why = tt

  pub end_cut : (r : Result T E) (view : View) (from : Side) (before : Streams) (now next middle output : Option (List ℕ)) (held : Held) → Tracks view from before (record { input = now; output = middle }) held
      → Consumes now next [] → IsAtEnd next → OnErr r (AppendsFront middle output (last_line view held.stopped held.left)) → OnErr r (IsCutShort view from before (record { input = next; output = output }))
  end_cut r view from before now next middle output held t none end last =
      err_then r (cut_last view from before (record { input = next; output = middle }) held output (tracks_none view from before now next middle held t none) end) last

  pub piece_cut : (r : Result T E) (view : View) (from : Side) (before : Streams) (now next middle output : Option (List ℕ)) (held : Held) (piece : List ℕ) (t : Tracks view from before (record { input = now; output = middle }) held)
      → Consumes now next piece → Stops view piece held middle output → OnErr r (IsCutShort view from before (record { input = next; output = output }))
  piece_cut r view from before now next middle output held piece t received some =
      on_err r (IsCutShort view from before (record { input = next; output = output })) (cut_piece view from before (record { input = now; output = middle }) held next output piece t received (some t.rest t.holds))

-- so many calls came, and one more
pub called_more : {S : Type 0} (called : S → ℕ → Type 0) (old new : S) (n : ℕ) → called new 1 → ((k : ℕ) → called old k → called new (k + 1)) → ((n ≡ 0) ⊎ called old n) → (n + 1 ≡ 0) ⊎ called new (n + 1)
called_more called old new n once again (inl e) = inr (subst (λ k. called new (k + 1)) (sym e) once)
called_more called old new n once again (inr h) = inr (again n h)
