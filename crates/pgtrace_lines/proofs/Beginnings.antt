-- The front of a server's stream: answers of one byte, and then messages.
use Rattle.pgtrace_lines.proofs.Common.{◌≡◌, ◌⊎◌, ℕ, ◌+◌, ◌<◌, Bool, true, false, List, [], ◌∷◌, ◌++◌, length, get_or, drop, Option, Some, None, refl, sym, ap, subst, ◌∙◌, inl, inr, arith, append_assoc, length-append, ◌==◌, if◌then◌else◌, Style, Phase, Beginning, Messages, Replicating, Encrypted, Side, Server, AreAnswers, Ends, answered, phase_behind, replicates_behind, server_at, IsAnswerLine, IsListing, LineOf, Listed, Lines, NoLines, OneLine, answer_line, answer_name, last_line, name_in, place_behind, View, shown, HasLine, ListsNext, phase_of}
use Rattle.pgtrace_lines.specs.declared.frame.Next.{Next}
use Rattle.pgtrace_lines.specs.declared.frame.Next.TheVariants.{Line, Waits, Stops}
use Rattle.pgtrace_lines.proofs.Ends.{answered_stays}
use Rattle.pgtrace_lines.proofs.FrameLines.{frame_long}
use Rattle.pgtrace_lines.proofs.Shorter.{frame_has}
use Rattle.pgtrace_lines.proofs.Sides.{Told, behind_it, listed, told}

-- ---- a step

some_more : (frame : List ℕ) (byte : ℕ) (bytes rest : List ℕ) → byte ∷ bytes ≡ frame ++ rest → 0 < length frame → phase_behind byte ≡ None → answered frame ≡ None
some_more [] byte bytes rest e some none = absurd (omega (arith, some))
some_more (x ∷ xs) byte bytes rest e some none = ap phase_behind (sym (ap (λ l. get_or l 0 0) e)) ∙ none

pub none_there : (o : Option Phase) → ((x : Phase) → o ≡ Some x → ⊥) → o ≡ None
none_there None never = refl
none_there (Some x) never = absurd (never x refl)

-- the first message, where no answer stands there
pub first_lists : (style : Style) (place : ℕ) (byte : ℕ) (bytes rest line : List ℕ) (replicating : Bool) (next : Next) → phase_behind byte ≡ None → ListsNext style place (Server Messages) (byte ∷ bytes) rest line (server_at replicating) next
    → ListsNext style place (Server Beginning) (byte ∷ bytes) rest line (Server (phase_of next replicating)) next
first_lists style place byte bytes rest line replicating (Line name) none has = record {
  frame = has.frame;
  whole = has.whole;
  reported = inr (record { reported = has.reported.0; none = some_more has.frame byte bytes rest has.whole (frame_has style place (Server Messages) (server_at replicating) has.frame line has.reported) none; behind = has.reported.1 });
  named = has.named;
}
first_lists style place byte bytes rest line replicating Waits none at = record { same = at.same; ending = (none, at.ending); side = refl }
first_lists style place byte bytes rest line replicating Stops none at = record { same = at.same; ending = (none, at.ending); side = refl }

-- an answer
pub answer_lists : (style : Style) (place byte : ℕ) (rest line : List ℕ) (phase : Phase) → phase_behind byte ≡ Some phase → line ≡ answer_line style place byte
    → HasLine style place (Server Beginning) (byte ∷ rest) rest line (Server phase) (answer_name byte)
answer_lists style place byte rest line phase answers reported = record {
  frame = byte ∷ [];
  whole = refl;
  reported = inl (record { phase = phase; reported = record { byte = byte; whole = refl; answers = answers; reported = reported }; behind = refl });
  named = refl;
}

-- ---- answers

pub none_some : {X : Type 0} (x : X) (a : Option X) → a ≡ Some x → a ≡ None → ⊥
none_some x (Some y) e f = absurd cc
none_some x None e f = absurd cc

two_phases : (byte : ℕ) → phase_behind byte ≡ Some Beginning → phase_behind byte ≡ Some Encrypted → ⊥
two_phases byte e f = let h : Some Beginning ≡ Some Encrypted = sym e ∙ f in absurd cc

-- what stands behind no answer
abbrev is_behind : Option Phase → Bool
is_behind None = true
is_behind (Some Beginning) = true
is_behind (Some Encrypted) = true
is_behind (Some Messages) = false
is_behind (Some Replicating) = false

picks : (a b c : Bool) → is_behind (if a then Some Beginning else if b then Some Encrypted else if c then Some Encrypted else None) ≡ true
picks true b c = refl
picks false true c = refl
picks false false true = refl
picks false false false = refl

behind_is : (byte : ℕ) → is_behind (phase_behind byte) ≡ true
behind_is byte = picks (byte == 78) (byte == 83) (byte == 71)

-- no answer is a message
never_messages : (byte : ℕ) → phase_behind byte ≡ Some Messages → ⊥
never_messages byte e = let h : true ≡ false = sym (behind_is byte) ∙ ap is_behind e in absurd cc

never_replicating : (byte : ℕ) → phase_behind byte ≡ Some Replicating → ⊥
never_replicating byte e = let h : true ≡ false = sym (behind_is byte) ∙ ap is_behind e in absurd cc

push_answer : (answers : List ℕ) (byte : ℕ) → AreAnswers answers → phase_behind byte ≡ Some Beginning → AreAnswers (answers ++ byte ∷ [])
push_answer [] byte all one = (one, tt)
push_answer (x ∷ xs) byte all one = (all.0, push_answer xs byte all.1 one)

-- where the last answer agreed to encrypt, no front of the bytes is made of those after which the stream goes on, with something else behind it
never_plain : (bytes answers rest : List ℕ) (byte : ℕ) → AreAnswers bytes → phase_behind byte ≡ Some Encrypted → AreAnswers answers → bytes ++ byte ∷ [] ≡ answers ++ rest → answered rest ≡ None → ⊥
never_plain [] [] rest byte all one plain e none = none_some Encrypted (phase_behind byte) one (ap answered e ∙ none)
never_plain [] (y ∷ ys) rest byte all one plain e none = two_phases byte (ap (λ l. answered l) e ∙ plain.0) one
never_plain (x ∷ xs) [] rest byte all one plain e none = none_some Beginning (phase_behind x) all.0 (ap answered e ∙ none)
never_plain (x ∷ xs) (y ∷ ys) rest byte all one plain e none = never_plain xs ys rest byte all.1 one plain.1 (ap (λ l. drop 1 l) e) none

-- such answers with something else behind them are so in one way
pub one_front : (a b x y : List ℕ) → AreAnswers a → AreAnswers b → answered x ≡ None → answered y ≡ None → a ++ x ≡ b ++ y → (a ≡ b) × (x ≡ y)
one_front [] [] x y p q m n e = (refl, e)
one_front [] (z ∷ zs) x y p q m n e = absurd (none_some Beginning (phase_behind z) q.0 (sym (ap answered e) ∙ m))
one_front (z ∷ zs) [] x y p q m n e = absurd (none_some Beginning (phase_behind z) p.0 (ap answered e ∙ n))
one_front (z ∷ zs) (w ∷ ws) x y p q m n e =
    let rest = one_front zs ws x y p.1 q.1 m n (ap (λ l. drop 1 l) e) in
    (ap (λ k. k ∷ zs) (ap (λ l. get_or l 0 0) e) ∙ ap (λ l. w ∷ l) rest.0, rest.1)

-- ---- how far a stream has come

-- answers with their lines, and then messages with theirs
pub record Begun (view : View) (start : ℕ) (bytes lines : List ℕ) (replicating : Bool) : Type 0 where
  pub answers : List ℕ
  pub more : List ℕ
  pub first : List ℕ
  pub rest : List ℕ
  pub whole : bytes ≡ answers ++ more
  pub text : lines ≡ first ++ rest
  pub plain : AreAnswers answers
  pub fronts : Lines view start (Server Beginning) answers first (Server Beginning)
  pub none : answered more ≡ None
  pub some : 0 < length more
  pub backs : Lines view (start + length answers) (Server Messages) more rest (server_at replicating)

pub data HasCome (view : View) (start : ℕ) (bytes lines : List ℕ) (to : Side) : Type 0 where
  StillAnswers : to ≡ Server Beginning → AreAnswers bytes → HasCome view start bytes lines to
  NowEncrypted : to ≡ Server Encrypted → ((answers rest : List ℕ) → AreAnswers answers → answered rest ≡ None → bytes ≡ answers ++ rest → ⊥) → HasCome view start bytes lines to
  NowMessages : (replicating : Bool) → to ≡ server_at replicating → Begun view start bytes lines replicating → HasCome view start bytes lines to

answer_comes : (phase : Phase) (view : View) (start place : ℕ) (bytes lines frame row line : List ℕ) (to : Side) → AreAnswers bytes → IsAnswerLine view.style place frame row phase → to ≡ Server phase → HasCome view start (bytes ++ frame) (lines ++ line) to
answer_comes Beginning view start place bytes lines frame row line to plain is e = StillAnswers e (subst (λ l. AreAnswers (bytes ++ l)) (sym is.whole) (push_answer bytes is.byte plain is.answers))
answer_comes Messages view start place bytes lines frame row line to plain is e = absurd (never_messages is.byte is.answers)
answer_comes Replicating view start place bytes lines frame row line to plain is e = absurd (never_replicating is.byte is.answers)
answer_comes Encrypted view start place bytes lines frame row line to plain is e =
    NowEncrypted e (λ answers rest others none f. never_plain bytes answers rest is.byte plain is.answers others (ap (λ l. bytes ++ l) (sym is.whole) ∙ f) none)

message_comes : (view : View) (start : ℕ) (bytes lines frame line : List ℕ) (to : Side) → Lines view start (Server Beginning) bytes lines (Server Beginning) → AreAnswers bytes → (has : Told view (place_behind (start + length bytes)) false frame line) → answered frame ≡ None → to ≡ server_at (replicates_behind false frame)
    → HasCome view start (bytes ++ frame) (lines ++ line) to
message_comes view start bytes lines frame line to before plain has none behind =
    let here : place_behind (start + length bytes) ≡ place_behind ((start + length bytes) + 0) = ap place_behind (omega arith) in
    NowMessages (replicates_behind false frame) behind (record {
      answers = bytes;
      more = frame;
      first = lines;
      rest = line;
      whole = refl;
      text = refl;
      plain = plain;
      fronts = before;
      none = none;
      some = omega (arith, frame_long has.reported.first frame has.reported.whole);
      backs = OneLine {bytes = []} {lines = []} {here = Server Messages} frame line NoLines (listed view (place_behind ((start + length bytes) + 0)) false frame line (subst (λ p. Told view p false frame line) here has));
    })

first_comes : (view : View) (start : ℕ) (bytes lines frame text row : List ℕ) (to : Side) → Lines view start (Server Beginning) bytes lines (Server Beginning) → AreAnswers bytes
    → (has : LineOf view.style (place_behind (start + length bytes)) (Server Beginning) frame row to) → text ≡ shown view (name_in view.style (place_behind (start + length bytes)) (Server Beginning) frame row to has) row → HasCome view start (bytes ++ frame) (lines ++ text) to
first_comes view start bytes lines frame text row to before plain (inl is) e = answer_comes is.phase view start (place_behind (start + length bytes)) bytes lines frame row text to plain is.reported is.behind
first_comes view start bytes lines frame text row to before plain (inr is) e = message_comes view start bytes lines frame text to before plain (record { line = row; reported = is.reported; is = e }) is.none is.behind

more_comes : (view : View) (start : ℕ) (replicating : Bool) (bytes lines frame line : List ℕ) (to : Side) → Begun view start bytes lines replicating → Listed view (place_behind (start + length bytes)) (server_at replicating) frame line to → HasCome view start (bytes ++ frame) (lines ++ line) to
more_comes view start replicating bytes lines frame line to b is =
    let place : place_behind (start + length bytes) ≡ place_behind ((start + length b.answers) + length b.more) = ap place_behind (omega (arith, ap length b.whole, length-append b.answers b.more)) in
    NowMessages (replicates_behind replicating frame) (behind_it view (place_behind (start + length bytes)) replicating frame line to is) (record {
      answers = b.answers;
      more = b.more ++ frame;
      first = b.first;
      rest = b.rest ++ line;
      whole = ap (λ l. l ++ frame) b.whole ∙ append_assoc b.answers b.more frame;
      text = ap (λ l. l ++ line) b.text ∙ append_assoc b.first b.rest line;
      plain = b.plain;
      fronts = b.fronts;
      none = answered_stays b.more frame b.some b.none;
      some = omega (arith, b.some, length-append b.more frame);
      backs = OneLine frame line b.backs (listed view (place_behind ((start + length b.answers) + length b.more)) replicating frame line (subst (λ p. Told view p replicating frame line) place (told view (place_behind (start + length bytes)) replicating frame line to is)));
    })

comes : (view : View) (start : ℕ) (bytes lines frame line : List ℕ) (here to : Side) → Lines view start (Server Beginning) bytes lines here → Listed view (place_behind (start + length bytes)) here frame line to → HasCome view start bytes lines here
    → HasCome view start (bytes ++ frame) (lines ++ line) to
comes view start bytes lines frame line here to before has (StillAnswers e plain) =
    let here_is = subst (λ h. Listed view (place_behind (start + length bytes)) h frame line to) e has in
    first_comes view start bytes lines frame line here_is.line to (subst (λ h. Lines view start (Server Beginning) bytes lines h) e before) plain here_is.reported here_is.is
comes view start bytes lines frame line here to before has (NowEncrypted e some) = absurd (subst (λ h. Listed view (place_behind (start + length bytes)) h frame line to) e has).reported
comes view start bytes lines frame line here to before has (NowMessages replicating e b) =
    more_comes view start replicating bytes lines frame line to b (subst (λ h. Listed view (place_behind (start + length bytes)) h frame line to) e has)

pub has_come : (view : View) (start : ℕ) (bytes lines : List ℕ) (to : Side) → Lines view start (Server Beginning) bytes lines to → HasCome view start bytes lines to
has_come view start [] [] _ NoLines = StillAnswers refl tt
has_come view start _ _ to (OneLine {bytes = bytes} {lines = lines} {here = here} frame line before has) = comes view start bytes lines frame line here to before has (has_come view start bytes lines here before)

-- ---- and back

none_front : (bytes more : List ℕ) → answered (bytes ++ more) ≡ None → answered bytes ≡ None
none_front [] more e = refl
none_front (x ∷ xs) more e = e

-- the answers so far, and then messages
record Rejoined (view : View) (start : ℕ) (answers first more rest : List ℕ) (to : Side) : Type 0 where
  listed : Lines view start (Server Beginning) (answers ++ more) (first ++ rest) to

abbrev nothing_or : View → ℕ → List ℕ → List ℕ → List ℕ → List ℕ → Side → Type 0
nothing_or view start answers first more rest to = ((more ≡ []) × (rest ≡ []) × (to ≡ Server Messages)) ⊎ Rejoined view start answers first more rest to

one_more : (view : View) (start : ℕ) (answers first bytes lines frame line : List ℕ) (here to : Side) → Lines view start (Server Beginning) answers first (Server Beginning) → answered (bytes ++ frame) ≡ None
    → Listed view (place_behind ((start + length answers) + length bytes)) here frame line to → nothing_or view start answers first bytes lines here → Rejoined view start answers first (bytes ++ frame) (lines ++ line) to
one_more view start answers first bytes lines frame line there to fronts none is (inl (e, f, g)) =
    let here : place_behind ((start + length answers) + length bytes) ≡ place_behind (start + length answers) = ap place_behind (omega (arith, ap length e)) in
    let at : answered frame ≡ None = ap (λ l. answered (l ++ frame)) (sym e) ∙ none in
    let has = subst (λ s. Listed view (place_behind (start + length answers)) s frame line to) g (subst (λ p. Listed view p there frame line to) here is) in
    record {
      listed = rw (e, f) (OneLine frame line fronts (record { line = has.line; reported = inr (record { reported = has.reported.0; none = at; behind = has.reported.1 }); is = has.is }));
    }
one_more view start answers first bytes lines frame line there to fronts none is (inr joined) =
    let here : place_behind ((start + length answers) + length bytes) ≡ place_behind (start + length (answers ++ bytes)) = ap place_behind (omega (arith, length-append answers bytes)) in
    record {
      listed = subst (λ l. Lines view start (Server Beginning) l (first ++ (lines ++ line)) to) (append_assoc answers bytes frame)
          (subst (λ l. Lines view start (Server Beginning) ((answers ++ bytes) ++ frame) l to) (append_assoc first lines line)
          (OneLine frame line joined.listed (subst (λ p. Listed view p there frame line to) here is)));
    }

rejoins : (view : View) (start : ℕ) (answers first more rest : List ℕ) (to : Side) → Lines view start (Server Beginning) answers first (Server Beginning) → Lines view (start + length answers) (Server Messages) more rest to → answered more ≡ None
    → nothing_or view start answers first more rest to
rejoins view start answers first [] [] _ fronts NoLines none = inl (refl, refl, refl)
rejoins view start answers first _ _ to fronts (OneLine {bytes = bytes} {lines = lines} {here = here} frame line before has) none =
    inr (one_more view start answers first bytes lines frame line here to fronts none has (rejoins view start answers first bytes lines here fronts before (none_front bytes frame none)))

rejoined : (view : View) (start : ℕ) (answers first more rest : List ℕ) (to : Side) → 0 < length more → nothing_or view start answers first more rest to → Lines view start (Server Beginning) (answers ++ more) (first ++ rest) to
rejoined view start answers first more rest to some (inl e) = absurd (omega (arith, some, ap length e.0))
rejoined view start answers first more rest to some (inr joined) = joined.listed

pub rejoin : (view : View) (start : ℕ) (answers first more rest : List ℕ) (to : Side) → Lines view start (Server Beginning) answers first (Server Beginning) → Lines view (start + length answers) (Server Messages) more rest to → answered more ≡ None → 0 < length more
    → Lines view start (Server Beginning) (answers ++ more) (first ++ rest) to
rejoin view start answers first more rest to fronts backs none some = rejoined view start answers first more rest to some (rejoins view start answers first more rest to fronts backs none)

-- ---- a stream without answers

nothing_listed : (view : View) (start : ℕ) (from to : Side) (bytes lines : List ℕ) → Lines view start from bytes lines to → bytes ≡ [] → lines ≡ []
nothing_listed view start from _ [] [] NoLines e = refl
nothing_listed view start from to _ _ (OneLine {bytes = bytes} {lines = lines} {here = here} frame line before has) e =
    absurd (omega (arith, ap length e, length-append bytes frame, frame_has view.style (place_behind (start + length bytes)) here to frame has.line has.reported))

no_answer : (answers rest : List ℕ) → AreAnswers answers → answered (answers ++ rest) ≡ None → answers ≡ []
no_answer [] rest plain none = refl
no_answer (x ∷ xs) rest plain none = absurd (none_some Beginning (phase_behind x) plain.0 none)

as_messages : (view : View) (bytes output : List ℕ) → answered bytes ≡ None → (l : IsListing view (Server Beginning) bytes output) → HasCome view 0 l.front l.lines l.to → IsListing view (Server Messages) bytes output
as_messages view bytes output none l (StillAnswers e plain) =
    let empty = no_answer l.front l.rest plain (ap answered (sym l.whole) ∙ none) in
    let lines = nothing_listed view 0 (Server Beginning) l.to l.front l.lines l.listed empty in
    record {
      to = Server Messages;
      front = [];
      rest = l.rest;
      lines = [];
      stopped = l.stopped;
      whole = l.whole ∙ ap (λ x. x ++ l.rest) empty;
      listed = NoLines;
      ending = (subst (λ s. Ends s l.stopped l.rest) e l.ending).1;
      text = l.text ∙ ap (λ x. x ++ last_line view l.stopped (place_behind (length l.rest))) lines;
    }
as_messages view bytes output none l (NowEncrypted e some) = absurd (some [] l.front tt (none_front l.front l.rest (ap answered (sym l.whole) ∙ none)) refl)
as_messages view bytes output none l (NowMessages replicating e b) =
    let front = none_front l.front l.rest (ap answered (sym l.whole) ∙ none) in
    let empty = no_answer b.answers b.more b.plain (ap answered (sym b.whole) ∙ front) in
    let lines = nothing_listed view 0 (Server Beginning) (Server Beginning) b.answers b.first b.fronts empty in
    let bytes_are : b.more ≡ l.front = sym (b.whole ∙ ap (λ x. x ++ b.more) empty) in
    let lines_are : b.rest ≡ l.lines = sym (b.text ∙ ap (λ x. x ++ b.rest) lines) in
    let start : 0 + length b.answers ≡ 0 = omega (arith, ap length empty) in
    record {
      to = server_at replicating;
      front = l.front;
      rest = l.rest;
      lines = l.lines;
      stopped = l.stopped;
      whole = l.whole;
      listed = subst (λ n. Lines view n (Server Messages) l.front l.lines (server_at replicating)) start
          (subst (λ x. Lines view (0 + length b.answers) (Server Messages) x l.lines (server_at replicating)) bytes_are
          (subst (λ x. Lines view (0 + length b.answers) (Server Messages) b.more x (server_at replicating)) lines_are b.backs));
      ending = subst (λ s. Ends s l.stopped l.rest) e l.ending;
      text = l.text;
    }

pub whole : (view : View) (bytes output : List ℕ) → answered bytes ≡ None → IsListing view (Server Beginning) bytes output → IsListing view (Server Messages) bytes output
whole view bytes output none l = as_messages view bytes output none l (has_come view 0 l.front l.lines l.to l.listed)

at_first : (view : View) (bytes output : List ℕ) → answered bytes ≡ None → (l : IsListing view (Server Messages) bytes output) → nothing_or view 0 [] [] l.front l.lines l.to → IsListing view (Server Beginning) bytes output
at_first view bytes output none l (inl (e, f, g)) =
    let is : bytes ≡ l.rest = l.whole ∙ ap (λ x. x ++ l.rest) e in
    record {
      to = Server Beginning;
      front = [];
      rest = l.rest;
      lines = [];
      stopped = l.stopped;
      whole = is;
      listed = NoLines;
      ending = (ap answered (sym is) ∙ none, subst (λ s. Ends s l.stopped l.rest) g l.ending);
      text = l.text ∙ ap (λ x. x ++ last_line view l.stopped (place_behind (length l.rest))) f;
    }
at_first view bytes output none l (inr joined) = record {
  to = l.to;
  front = l.front;
  rest = l.rest;
  lines = l.lines;
  stopped = l.stopped;
  whole = l.whole;
  listed = joined.listed;
  ending = l.ending;
  text = l.text;
}

pub other : (view : View) (bytes output : List ℕ) → answered bytes ≡ None → IsListing view (Server Messages) bytes output → IsListing view (Server Beginning) bytes output
other view bytes output none l =
    at_first view bytes output none l (rejoins view 0 [] [] l.front l.lines l.to NoLines l.listed (none_front l.front l.rest (ap answered (sym l.whole) ∙ none)))
