-- Frames that differ in their secrets alone have the same text.
use Rattle.pgtrace_session.proofs.Common.{◌≡◌, ℕ, Bool, true, false, List, [], ◌∷◌, ◌++◌, length, get_or, Result, sym, ap, subst, ◌∙◌, inl, inr, arith, append-nil, Error, Body, Message, Frame, IsFrame, frame_bytes, front_is_one, one_body, length-frame, PasswordKind, Style, ReadsAs, IsServerLine, LineOf, name_in, server_name, AlikeFrames, AlikeResults, quiet, quietly, Side, answered, is_reported, replicates_behind, server_at, Beginning, Messages, Replicating, Encrypted, View, Sender, Known, ListsFrame, note, noted_in, side_in, text_of, told_by, with_numbers, with_side, with_types, asking, role_by, role_in, places, sent_in, ShowsTyped, said_in}
use Rattle.pgtrace_lines.specs.Sides.{Server, Client}
use Rattle.pgtrace_lines.proofs.ClientStreams as sent
use Rattle.pgtrace_lines.proofs.Streams.{line_hidden}
use Rattle.pgtrace_session.specs.Secrets.{AlikeIn, AlikeReceived, AlikeSent}
use Rattle.pgtrace_session.proofs.Alike.{client_roles, notes_alike, places_alike, server_roles}
use Rattle.pgtrace_session.proofs.TypedAlike.{AlikeSaid, learns_alike, shows_alike}

-- ---- the line of the other frame

record Hidden (style : Style) (place : ℕ) (from : Side) (frame other line : List ℕ) (to : Side) (is : LineOf (quiet style) place from frame line to) : Type 0 where
  same : LineOf (quiet style) place from other line to
  named : name_in (quiet style) place from frame line to is ≡ name_in (quiet style) place from other line to same
  role : role_in (quiet style) place from frame line to is ≡ role_in (quiet style) place from other line to same
  said : AlikeSaid (said_in (quiet style) place from frame line to is) (said_in (quiet style) place from other line to same)

-- ---- a server's

record ServerHidden (style : Style) (place : ℕ) (replicating : Bool) (frame other line : List ℕ) (is : IsServerLine (quiet style) place replicating frame line) : Type 0 where
  same : IsServerLine (quiet style) place replicating other line
  named : server_name is.first.tag is.reported.result ≡ server_name same.first.tag same.reported.result
  behind : replicates_behind replicating frame ≡ replicates_behind replicating other
  tagged : get_or frame 0 0 ≡ get_or other 0 0
  starts : answered frame ≡ answered other
  said : AlikeResults is.reported.result same.reported.result

result_alike : (f g : Frame) (r s : Result Message Error) → IsFrame g → AlikeFrames f g → Body f.tag f.payload r → Body g.tag g.payload s → AlikeResults r s
result_alike f g r s fits alike a b = let same = alike.bodies r a in subst (AlikeResults r) (sym (one_body g.tag g.payload same.0 fits.payload same.1) ∙ one_body g.tag g.payload s fits.payload b) same.2

server_hidden : (style : Style) (place : ℕ) (replicating : Bool) (frame other line : List ℕ) → AlikeReceived frame other → (is : IsServerLine (quiet style) place replicating frame line) → ServerHidden style place replicating frame other line is
server_hidden style place replicating frame other line a is =
    let one : a.first ≡ is.first = (front_is_one a.first is.first [] [] a.fits is.fits (ap (λ l. l ++ []) (sym a.one ∙ is.whole))).0 in
    let alike = rw one at a.alike in
    let hidden = line_hidden style place replicating is.first a.second line alike is.reported in
    record {
      same = record { first = a.second; whole = a.two; fits = a.holds; reported = hidden.is };
      named = hidden.named;
      behind = ap (replicates_behind replicating) is.whole ∙ ap (λ t. replicates_behind replicating (t ∷ [])) alike.tagged ∙ sym (ap (replicates_behind replicating) a.two);
      tagged = ap (λ l. get_or l 0 0) is.whole ∙ alike.tagged ∙ sym (ap (λ l. get_or l 0 0) a.two);
      starts = ap answered is.whole ∙ ap (λ t. answered (t ∷ [])) alike.tagged ∙ sym (ap answered a.two);
      said = result_alike is.first a.second is.reported.result hidden.is.result a.holds alike is.reported.body hidden.is.body;
    }

no_answer : (frame other : List ℕ) (byte : ℕ) → AlikeReceived frame other → frame ≡ byte ∷ [] → ⊥
no_answer frame other byte a e = absurd (omega (arith, ap length e, ap length a.one, ap length (append-nil (frame_bytes a.first)), length-frame a.first []))

messages_hidden : (style : Style) (place : ℕ) (frame other line : List ℕ) (to : Side) → AlikeReceived frame other → (is : LineOf (quiet style) place (Server Messages) frame line to) → Hidden style place (Server Messages) frame other line to is
messages_hidden style place frame other line to a is =
    let h = server_hidden style place false frame other line a is.0 in
    record { same = (h.same, is.1 ∙ ap server_at h.behind); named = h.named; role = server_roles (get_or frame 0 0) (get_or other 0 0) is.0.reported.result h.same.reported.result h.tagged h.said; said = h.said }

replicating_hidden : (style : Style) (place : ℕ) (frame other line : List ℕ) (to : Side) → AlikeReceived frame other → (is : LineOf (quiet style) place (Server Replicating) frame line to) → Hidden style place (Server Replicating) frame other line to is
replicating_hidden style place frame other line to a is =
    let h = server_hidden style place true frame other line a is.0 in
    record { same = (h.same, is.1 ∙ ap server_at h.behind); named = h.named; role = server_roles (get_or frame 0 0) (get_or other 0 0) is.0.reported.result h.same.reported.result h.tagged h.said; said = h.said }

beginning_hidden : (style : Style) (place : ℕ) (frame other line : List ℕ) (to : Side) → AlikeReceived frame other → (is : LineOf (quiet style) place (Server Beginning) frame line to) → Hidden style place (Server Beginning) frame other line to is
beginning_hidden style place frame other line to a (inl answer) = absurd (no_answer frame other answer.reported.byte a answer.reported.whole)
beginning_hidden style place frame other line to a (inr is) =
    let h = server_hidden style place false frame other line a is.reported in
    record {
      same = inr (record { reported = h.same; none = sym h.starts ∙ is.none; behind = is.behind ∙ ap server_at h.behind });
      named = h.named;
      role = server_roles (get_or frame 0 0) (get_or other 0 0) is.reported.reported.result h.same.reported.result h.tagged h.said;
      said = h.said;
    }

-- ---- a client's

client_hidden : (style : Style) (place : ℕ) (opened : Bool) (kinds : List PasswordKind) (replicating : Bool) (frame other line : List ℕ) (to : Side) → AlikeSent opened kinds frame other
    → (is : LineOf (quiet style) place (Client opened kinds replicating) frame line to) → Hidden style place (Client opened kinds replicating) frame other line to is
client_hidden style place opened kinds replicating frame other line to a is =
    let h = sent.line_hidden style place opened kinds replicating frame other line to a.alike is in
    record {
      same = h.is;
      named = sent.names_alike (is_reported kinds) is.reported.result h.is.reported.result h.same;
      role = ap asking (client_roles frame other is.reported.result h.is.reported.result (λ e same. a.rejected e is.now (subst (λ r. ReadsAs opened kinds frame r is.now) same is.reported.step)) h.same);
      said = h.same;
    }

-- ---- both

hidden : (style : Style) (place : ℕ) (from : Side) (frame other line : List ℕ) (to : Side) → AlikeIn from frame other → (is : LineOf (quiet style) place from frame line to) → Hidden style place from frame other line to is
hidden style place (Server Beginning) frame other line to a is = beginning_hidden style place frame other line to a is
hidden style place (Server Messages) frame other line to a is = messages_hidden style place frame other line to a is
hidden style place (Server Replicating) frame other line to a is = replicating_hidden style place frame other line to a is
hidden style place (Server Encrypted) frame other line to a is = absurd is
hidden style place (Client opened kinds replicating) frame other line to a is = client_hidden style place opened kinds replicating frame other line to a is

pub long_alike : (from : Side) (frame other : List ℕ) → AlikeIn from frame other → length frame ≡ length other
long_alike (Server phase) frame other a = ap length a.one ∙ a.alike.long ∙ sym (ap length a.two)
long_alike (Client opened kinds replicating) frame other a = a.alike.long

pub frames_hidden : (view : View) (mark : List ℕ) (who : Sender) (place : ℕ) (here to : Known) (frame other text : List ℕ) → AlikeIn (side_in who here) frame other
    → ListsFrame (quietly view) mark who place here frame text to → ListsFrame (quietly view) mark who place here other text to
frames_hidden view mark who place here to frame other text alike l =
    let style = quiet view.style in
    let from = side_in who here in
    let h = hidden view.style place from frame other l.line l.after alike l.reported in
    let said = said_in style place from frame l.line l.after l.reported in
    let there = said_in style place from other l.line l.after h.same in
    let noted : noted_in style place from frame l.line l.after l.reported ≡ noted_in style place from other l.line l.after h.same = notes_alike said there h.said in
    record {
      line = l.line;
      after = l.after;
      told = l.told;
      numbers = l.numbers;
      types = l.types;
      typed = l.typed;
      reported = h.same;
      placed = ap (λ r. places r (sent_in there) here.numbers) (sym h.role) ∙ sym (places_alike (role_by frame said) said there h.said here.numbers) ∙ l.placed;
      learns = learns_alike l.told said there h.said here.types l.types l.learns;
      shows = subst (λ n. ShowsTyped style place n l.told there l.types l.line l.typed) (long_alike from frame other alike) (shows_alike style place (length frame) l.told said there h.said l.types l.line l.typed l.shows);
      is = l.is ∙ ap (λ n. text_of (quietly view) mark (told_by here.marked l.told) place here.requests n l.typed) h.named;
      behind = l.behind ∙ ap (λ n. note n (with_types l.types (with_numbers l.numbers (with_side who here l.after)))) noted;
    }
