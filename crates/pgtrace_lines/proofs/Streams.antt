-- Streams that differ in their secrets alone have the same lines.
use Rattle.pgtrace_lines.proofs.Common.{◌≡◌, ◌⊎◌, inl, inr, Bool, false, ℕ, ◌+◌, ◌<◌, List, [], ◌∷◌, ◌++◌, length, None, Result, Ok, Err, refl, sym, ap, subst, ◌∙◌, arith, codes, Error, Message, Frame, frame_bytes, front_is_one, Style, Length, Name, Part, Tag, followed, opening, ShowsCopyBoth, ShowsResult, ShowsUnread, CallResult, CopyBoth, Rejected, Side, Server, AreAnswers, answered, phase_behind, replicates, replicates_behind, server_at, Beginning, Messages, GoesOn, IsLineOf, Listed, Lines, Rows, front, server_name, unread_name, View, shown, AlikeBeginnings, AlikeResults, AlikeFrames, AlikeReceived, AlikeStreams, NoFrames, OneAlike, quiet, quietly, Says, called, inner_data}
use Rattle.std.proofs.lemmas.List.{length-append, nil_from_length}
use Rattle.pgtrace_lines.proofs.Beginnings.{HasCome, StillAnswers, NowEncrypted, NowMessages, has_come, none_some, one_front, rejoin}
use Rattle.pgtrace_lines.proofs.FrameLines.{frame_long}
use Rattle.pgtrace_lines.proofs.Rows.{InOrder, NoMore, Replaced, in_order, replaced, row_more, rows_again}
use Rattle.pgtrace_lines.proofs.Shorter.{frame_some}
use Rattle.pgtrace_lines.proofs.Sides.{ServerAt, behind_it, listed as listed_so, told}
use Rattle.pgtrace_lines.proofs.Hiding.{hidden_inside, same_call, same_data}

-- ---- lines

same_front : (style : Style) (place : ℕ) (f g : Frame) → AlikeFrames f g → front style place f ≡ front style place g
same_front style place f g alike =
    ap (λ n. followed style (opening style place) (Length n ∷ Tag f.tag ∷ [])) alike.long ∙ ap (λ t. followed style (opening style place) (Length (length (frame_bytes g)) ∷ Tag t ∷ [])) alike.tagged

unread_alike : (style : Style) (tag : ℕ) (body other : List ℕ) (e : Error) (old new : List ℕ) → ((tag ≡ 86) ⊎ (tag ≡ 87) → body ≡ other) → ShowsUnread style tag body e old new → ShowsUnread style tag other e old new
unread_alike style tag body other e old new same (CallResult t s) = CallResult t (subst (λ l. ShowsResult style l (followed style old (Name false (codes "FunctionCallResponse") ∷ [])) new) (same (inl t)) s)
unread_alike style tag body other e old new same (CopyBoth t s) = CopyBoth t (subst (λ l. ShowsCopyBoth style l (followed style old (Name false (codes "CopyBothResponse") ∷ [])) new) (same (inr t)) s)
unread_alike style tag body other e old new same (Rejected t u s) = Rejected t u s

goes_on : (style : Style) (replicating : Bool) (tag : ℕ) (body other : List ℕ) (r s : Result Message Error) (old new : List ℕ) → ((tag ≡ 86) ⊎ (tag ≡ 87) → body ≡ other) → AlikeResults r s → GoesOn (quiet style) replicating tag body r old new → GoesOn (quiet style) replicating tag other s old new
goes_on style replicating tag body other (Ok m) (Ok n) old new same alike goes =
    subst (λ w. Says (inner_data replicating n) (quiet style) n (followed (quiet style) old (w ∷ [])) new) (same_call m n alike)
    (subst (λ o. Says o (quiet style) n (followed (quiet style) old (called m ∷ [])) new) (same_data replicating m n alike) (hidden_inside (inner_data replicating m) style m n (followed (quiet style) old (called m ∷ [])) new alike goes))
goes_on style replicating tag body other (Err d) (Err e) old new same alike goes = subst (λ k. ShowsUnread (quiet style) tag other k old new) alike (unread_alike (quiet style) tag body other d old new same goes)
goes_on style replicating tag body other (Ok m) (Err e) old new same alike goes = absurd alike
goes_on style replicating tag body other (Err d) (Ok n) old new same alike goes = absurd alike

abbrev part_name : Part → List ℕ
part_name (Name alone name) = name
part_name part = []

names_alike : (t u : ℕ) (r s : Result Message Error) → t ≡ u → AlikeResults r s → server_name t r ≡ server_name u s
names_alike t u (Ok m) (Ok n) e same = ap part_name (same_call m n same)
names_alike t u (Err d) (Err h) e same = ap unread_name e
names_alike t u (Ok m) (Err h) e same = absurd same
names_alike t u (Err d) (Ok n) e same = absurd same

pub record LineHidden (style : Style) (place : ℕ) (replicating : Bool) (g : Frame) (line name : List ℕ) : Type 0 where
  pub is : IsLineOf (quiet style) place replicating g line
  pub named : name ≡ server_name g.tag is.result

pub line_hidden : (style : Style) (place : ℕ) (replicating : Bool) (f g : Frame) (line : List ℕ) → AlikeFrames f g → (is : IsLineOf (quiet style) place replicating f line) → LineHidden style place replicating g line (server_name f.tag is.result)
line_hidden style place replicating f g line alike is =
    let (s, body, same) = alike.bodies is.result is.body in
    record {
      is = record {
        result = s;
        body = body;
        text = is.text;
        reported = subst (λ t. GoesOn (quiet style) replicating t g.payload s (front (quiet style) place g) is.text) alike.tagged
            (goes_on style replicating f.tag f.payload g.payload is.result s (front (quiet style) place g) is.text alike.plain same
            (subst (λ l. GoesOn (quiet style) replicating f.tag f.payload is.result l is.text) (same_front (quiet style) place f g alike) is.reported));
        ended = is.ended;
      };
      named = names_alike f.tag g.tag is.result s alike.tagged same;
    }

same_length : (a b : List ℕ) → AlikeStreams a b → length a ≡ length b
same_length [] [] NoFrames = refl
same_length _ _ (OneAlike {a = a} {b = b} f g before ff gg alike) =
    omega (arith, same_length a b before, length-append a (frame_bytes f), length-append b (frame_bytes g), alike.long)

nothing_alike : (all other : List ℕ) → AlikeStreams all other → all ≡ [] → other ≡ []
nothing_alike all other alike e = nil_from_length other (sym (same_length all other alike) ∙ ap length e)

-- a frame, and one that is like it
abbrev Pair : ℕ → Unit {0} → List ℕ → List ℕ → Unit {0} → Type 0
Pair place here f g to = AlikeReceived f g

pairs : (a b : List ℕ) → AlikeStreams a b → InOrder Pair tt 0 tt a b
pairs [] [] NoFrames = NoMore
pairs _ _ (OneAlike {a = a} {b = b} f g before ff gg alike) = row_more Pair tt 0 tt tt a b (frame_bytes f) (frame_bytes g) (pairs a b before) (record { first = f; second = g; one = refl; two = refl; fits = ff; holds = gg; alike = alike })

some_pair : (place : ℕ) (here to : Unit {0}) (f g : List ℕ) → AlikeReceived f g → 0 < length f
some_pair place here to f g p = omega (arith, frame_long p.first f p.one)

abbrev Meet : Side → Unit {0} → Side → Type 0
Meet s u w = ServerAt s × (w ≡ s)

module _ (view : View) where
  abbrev One : ℕ → Side → List ℕ → List ℕ → Side → Type 0
  One place here frame text to = Listed (quietly view) place here frame text to

  hides : (place q : ℕ) (s t : Side) (u v : Unit {0}) (w : Side) (f h g text x y : List ℕ) → Meet s u w → One place s f text t → AlikeReceived h g → f ++ x ≡ h ++ y → Replaced One (λ k n. Meet k v n) place w f h g text x y t
  hides place q s t u v w f h g text x y at has pair e =
      let r = at.0.replicating in
      let there = subst (λ k. One place k f text t) at.0.is has in
      let had = told (quietly view) place r f text t there in
      let is = had.reported in
      let one = front_is_one is.first pair.first x y is.fits pair.fits (ap (λ l. l ++ x) (sym is.whole) ∙ e ∙ ap (λ l. l ++ y) pair.one) in
      let alike : AlikeFrames is.first pair.second = subst (λ k. AlikeFrames k pair.second) (sym one.0) pair.alike in
      let hid = line_hidden view.style place r is.first pair.second had.line alike is.reported in
      let to = server_at (replicates_behind r g) in
      let behind : t ≡ to = behind_it (quietly view) place r f text t there ∙ ap (λ l. server_at (replicates_behind r l)) is.whole ∙ ap (λ n. server_at (replicates r n)) alike.tagged ∙ sym (ap (λ l. server_at (replicates_behind r l)) pair.two) in
      record {
        frames = is.whole ∙ ap frame_bytes one.0 ∙ sym pair.one;
        rests = one.1;
        long = ap length is.whole ∙ alike.long ∙ sym (ap length pair.two);
        state = to;
        is = subst (λ k. One place k g text to) (sym (at.1 ∙ at.0.is)) (listed_so (quietly view) place r g text
            (record { line = had.line; reported = record { first = pair.second; whole = pair.two; fits = pair.holds; reported = hid.is }; is = had.is ∙ ap (λ n. shown (quietly view) n had.line) hid.named }));
        at = (record { replicating = replicates_behind r g; is = behind }, sym behind);
      }

  pub streams_hidden : (start : ℕ) (a b lines : List ℕ) (to : Side) → AlikeStreams a b → Lines (quietly view) start (Server Messages) a lines to → Lines (quietly view) start (Server Messages) b lines to
  streams_hidden start a b lines to alike listed =
      let from = Server Messages in
      let all = replaced One Pair One Meet hides (frame_some (quietly view)) some_pair to tt start 0 from tt from a lines a b (record { replicating = false; is = refl }, refl) (in_order One start from to a lines listed) (pairs a b alike) refl in
      subst (Rows One start from b lines) all.at.1 (rows_again One all.state start from b lines all.rows)

-- ---- from the first byte of a connection on

same_first : (a b : List ℕ) (f g : Frame) → length a ≡ length b → answered a ≡ answered b → f.tag ≡ g.tag → answered (a ++ frame_bytes f) ≡ answered (b ++ frame_bytes g)
same_first [] [] f g n e t = ap phase_behind t
same_first [] (y ∷ ys) f g n e t = absurd (omega (arith, n))
same_first (x ∷ xs) [] f g n e t = absurd (omega (arith, n))
same_first (x ∷ xs) (y ∷ ys) f g n e t = e

alike_first : (a b : List ℕ) → AlikeStreams a b → answered a ≡ answered b
alike_first [] [] NoFrames = refl
alike_first _ _ (OneAlike {a = a} {b = b} f g before ff gg alike) = same_first a b f g (same_length a b before) (alike_first a b before) alike.tagged

nothing_first : (answers first : List ℕ) → AreAnswers (answers ++ first) → answered first ≡ None → first ≡ []
nothing_first [] [] all none = refl
nothing_first [] (x ∷ xs) all none = absurd (none_some Beginning (phase_behind x) all.0 none)
nothing_first (y ∷ ys) first all none = nothing_first ys first all.1 none

come_alike : (view : View) (start : ℕ) (a b lines : List ℕ) (to : Side) → AlikeBeginnings a b → Lines (quietly view) start (Server Beginning) a lines to → HasCome (quietly view) start a lines to → Lines (quietly view) start (Server Beginning) b lines to
come_alike view start a b lines to alike listed (StillAnswers e plain) =
    let empty = nothing_first alike.answers alike.first (subst AreAnswers alike.one plain) alike.none in
    let is : a ≡ b = alike.one ∙ ap (λ l. alike.answers ++ l) (empty ∙ sym (nothing_alike alike.first alike.other alike.alike empty)) ∙ sym alike.two in
    subst (λ l. Lines (quietly view) start (Server Beginning) l lines to) is listed
come_alike view start a b lines to alike listed (NowEncrypted e some) = absurd (some alike.answers alike.first alike.plain alike.none alike.one)
come_alike view start a b lines to alike listed (NowMessages replicating e begun) =
    let one = one_front begun.answers alike.answers begun.more alike.first begun.plain alike.plain begun.none alike.none (sym begun.whole ∙ alike.one) in
    let same : AlikeStreams begun.more alike.other = subst (λ l. AlikeStreams l alike.other) (sym one.1) alike.alike in
    let none : answered alike.other ≡ None = sym (alike_first alike.first alike.other alike.alike) ∙ alike.none in
    let some : 0 < length alike.other = omega (arith, begun.some, same_length begun.more alike.other same) in
    let backs = streams_hidden view (start + length begun.answers) begun.more alike.other begun.rest (server_at replicating) same begun.backs in
    let bytes : begun.answers ++ alike.other ≡ b = ap (λ l. l ++ alike.other) one.0 ∙ sym alike.two in
    subst (λ l. Lines (quietly view) start (Server Beginning) l lines to) bytes
    (subst (λ l. Lines (quietly view) start (Server Beginning) (begun.answers ++ alike.other) l to) (sym begun.text)
    (subst (λ l. Lines (quietly view) start (Server Beginning) (begun.answers ++ alike.other) (begun.first ++ begun.rest) l) (sym e)
    (rejoin (quietly view) start begun.answers begun.first alike.other begun.rest (server_at replicating) begun.fronts backs none some)))

pub beginnings_hidden : (view : View) (start : ℕ) (a b lines : List ℕ) (to : Side) → AlikeBeginnings a b → Lines (quietly view) start (Server Beginning) a lines to → Lines (quietly view) start (Server Beginning) b lines to
beginnings_hidden view start a b lines to alike listed = come_alike view start a b lines to alike listed (has_come (quietly view) start a lines to listed)
