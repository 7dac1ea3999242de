-- A stream has one listing.
use Rattle.pgtrace_lines.proofs.Common.{◌≡◌, ℕ, Bool, true, false, List, [], ◌∷◌, ◌++◌, length, get_or, drop, ◌<◌, Option, Some, None, Result, Ok, Err, refl, sym, ap, subst, ◌∙◌, inl, inr, arith, length-append, codes, IsUtf8, Error, text_at, Body, AuthenticationSasl, Message, NotificationResponse, CommandComplete, DataRow, ErrorResponse, CopyInResponse, CopyOutResponse, NegotiateProtocolVersion, NoticeResponse, Authentication, ParameterStatus, RowDescription, ParameterDescription, payload_of, TextSpelled, TextRefused, FormatSpelled, FormatRefused, TypeSpelled, TypeRefused, RangeSpelled, RangeRefused, FieldSpelled, FieldRefused, ErrorFieldSpelled, ErrorFieldRefused, Frame, frame_bytes, IsFrame, IsEnding, front_is_one, no_ending, runs_one, frames_none, ClientMessage, step_of, Unread, IsPartial, Refuses, Step, ClientError, InvalidLength, step_one, partial_waits, step_fault, Style, Part, Count, Key, ListEnds, Name, Number, ObjectEnds, Text, closing, followed, Phase, Beginning, Messages, Replicating, Encrypted, ClientSays, client_data, ShowsInner, inner_parts, Says, Shows, ShowsCounted, ShowsMarked, ShowsTexts, called, closed, inner_data, list_of, ShowsCopyBoth, ShowsResult, ShowsUnread, CallResult, CopyBoth, Rejected, copy_parts, result_parts, Side, Server, Client, Ends, IsRefusedPacket, answered, expected, is_reported, kinds_behind, phase_behind, replicates_behind, server_at, EndsSo, GoesOn, IsAnswerLine, IsListing, IsLineOf, IsNextLine, IsServerLine, LineOf, Listed, answer_line, answer_name, client_frame_name, client_front, front, last_line, name_in, place_behind, server_name, View, shown}
use Rattle.pgp_base.specs.OneList.{HasOneCountedList, HasOneMarkedList}
use Rattle.pgp_base.proofs.OneLists.{one_counted_list, one_marked_list}
use Rattle.pgp_message.specs.ItemReading.{format_at, type_at, range_at, field_at, error_field_at}
use Rattle.pgp_message.proofs.Bodies.{one_body}
use Rattle.pgp_message.proofs.ErrorFieldLemmas.{error_field_reader}
use Rattle.pgp_message.proofs.FieldLemmas.{field_reader}
use Rattle.pgp_message.proofs.NumberLemmas.{format_reader, type_reader}
use Rattle.pgp_message.proofs.RangeLemmas.{range_reader}
use Rattle.pgp_message.proofs.TextLemmas.{text_reader}
use Rattle.pgp_frontend_read.specs.declared.error.ClientError.TheVariants.{Reading}
use Rattle.pgp_frontend_read.specs.declared.message.PasswordKind as code
use Rattle.pgtool_line.specs.Line.{key as named}
use Rattle.pgtrace_lines.proofs.Inners.{one_inner}
use Rattle.pgtrace_lines.proofs.PlainBodies.{one_copy, one_result}
use Rattle.pgtrace_lines.proofs.ClientStreams.{behind, one_first}
use Rattle.pgtrace_lines.proofs.Rows.{SameFirst, rows_one}
use Rattle.pgtrace_lines.proofs.Shorter.{frame_has}
use Rattle.pgtrace_lines.proofs.Beginnings.{none_some}

-- ---- what a message says

counted_one : {V : Type 0} (Spelled : ℕ → V → List ℕ → Type 0) (Refused : List ℕ → Error → Type 0) (parts : V → List Part) (style : Style) (count : ℕ) (bytes old new other : List ℕ) → HasOneCountedList Spelled Refused
    → ShowsCounted Spelled Refused parts style count bytes old new → ShowsCounted Spelled Refused parts style count bytes old other → new ≡ other
counted_one Spelled Refused parts style count bytes old new other has a b =
    let same = has.one count bytes a.items b.items a.end b.end a.list b.list in
    a.text ∙ ap (λ xs. followed style old (Count count ∷ list_of parts xs a.end)) same.0 ∙ ap (λ e. followed style old (Count count ∷ list_of parts b.items e)) same.1 ∙ sym b.text

marked_one : {V : Type 0} (Spelled : ℕ → V → List ℕ → Type 0) (Refused : List ℕ → Error → Type 0) (close : Part) (parts : V → List Part) (style : Style) (bytes old new other : List ℕ) → HasOneMarkedList Spelled Refused
    → ShowsMarked Spelled Refused close parts style bytes old new → ShowsMarked Spelled Refused close parts style bytes old other → new ≡ other
marked_one Spelled Refused close parts style bytes old new other has a b =
    let same = has.one bytes a.items b.items a.end b.end a.list b.list in
    a.text ∙ ap (λ xs. followed style old (closed close parts xs a.end)) same.0 ∙ ap (λ e. followed style old (closed close parts b.items e)) same.1 ∙ sym b.text

texts_one : (style : Style) (utf8 : Type 0) (parts : List Part) (body old new other : List ℕ) → ShowsTexts style utf8 parts body old new → ShowsTexts style utf8 parts body old other → new ≡ other
texts_one style utf8 parts body old new other (inl a) (inl b) = a.1 ∙ sym b.1
texts_one style utf8 parts body old new other (inl a) (inr b) = absurd (b.0 a.0)
texts_one style utf8 parts body old new other (inr a) (inl b) = absurd (a.0 b.0)
texts_one style utf8 parts body old new other (inr a) (inr b) = a.1 ∙ sym b.1

texts : HasOneMarkedList TextSpelled TextRefused
texts = one_marked_list TextSpelled TextRefused (λ place. text_at) text_reader

options : HasOneCountedList TextSpelled TextRefused
options = one_counted_list TextSpelled TextRefused (λ place. text_at) text_reader

formats : HasOneCountedList FormatSpelled FormatRefused
formats = one_counted_list FormatSpelled FormatRefused (λ place. format_at) format_reader

pub types : HasOneCountedList TypeSpelled TypeRefused
types = one_counted_list TypeSpelled TypeRefused (λ place. type_at) type_reader

pub ranges : HasOneCountedList RangeSpelled RangeRefused
ranges = one_counted_list RangeSpelled RangeRefused range_at range_reader

pub columns : HasOneCountedList FieldSpelled FieldRefused
columns = one_counted_list FieldSpelled FieldRefused (λ place. field_at) field_reader

fields : HasOneMarkedList ErrorFieldSpelled ErrorFieldRefused
fields = one_marked_list ErrorFieldSpelled ErrorFieldRefused (λ place. error_field_at) error_field_reader

shows_one : (style : Style) (m : Message) (old new other : List ℕ) → Shows style m old new → Shows style m old other → new ≡ other
shows_one style (Authentication (AuthenticationSasl bytes)) old new other a b = marked_one TextSpelled TextRefused ListEnds _ style bytes _ new other texts a b
shows_one style (NotificationResponse n) old new other a b = texts_one style (IsUtf8 n.channel × IsUtf8 n.message)
    (Key (codes "process") (codes "process_id") ∷ Number n.process_id ∷ named (codes "channel") ∷ Text n.channel ∷ named (codes "payload") ∷ Text n.message ∷ []) (payload_of (NotificationResponse n)) old new other a b
shows_one style (CommandComplete tag) old new other a b = texts_one style (IsUtf8 tag) (Key (codes "tag") (codes "command_tag") ∷ Text tag ∷ []) (payload_of (CommandComplete tag)) old new other a b
shows_one style (DataRow row) old new other a b = counted_one RangeSpelled RangeRefused _ style row.count row.storage _ new other ranges a b
shows_one style (ErrorResponse bytes) old new other a b = marked_one ErrorFieldSpelled ErrorFieldRefused ObjectEnds _ style bytes _ new other fields a b
shows_one style (CopyInResponse copy) old new other a b = counted_one FormatSpelled FormatRefused _ style copy.count copy.storage _ new other formats a b
shows_one style (CopyOutResponse copy) old new other a b = counted_one FormatSpelled FormatRefused _ style copy.count copy.storage _ new other formats a b
shows_one style (NegotiateProtocolVersion n) old new other a b = counted_one TextSpelled TextRefused _ style n.count n.options _ new other options a b
shows_one style (NoticeResponse bytes) old new other a b = marked_one ErrorFieldSpelled ErrorFieldRefused ObjectEnds _ style bytes _ new other fields a b
shows_one style (ParameterStatus setting) old new other a b = texts_one style (IsUtf8 setting.name × IsUtf8 setting.value)
    (Key (codes "name") (codes "parameter") ∷ Text setting.name ∷ named (codes "value") ∷ Text setting.value ∷ []) (payload_of (ParameterStatus setting)) old new other a b
shows_one style (RowDescription row) old new other a b = counted_one FieldSpelled FieldRefused _ style row.count row.storage _ new other columns a b
shows_one style (ParameterDescription row) old new other a b = counted_one TypeSpelled TypeRefused _ style row.count row.storage _ new other types a b
shows_one style m old new other a b = a ∙ sym b

result_one : (style : Style) (body old new other : List ℕ) → ShowsResult style body old new → ShowsResult style body old other → new ≡ other
result_one style body old new other (inl a) (inl b) = a.2 ∙ ap (λ v. followed style old (result_parts v)) (one_result body a.0 b.0 a.1 b.1) ∙ sym b.2
result_one style body old new other (inl a) (inr b) = absurd (b.0 a.0 a.1)
result_one style body old new other (inr a) (inl b) = absurd (a.0 b.0 b.1)
result_one style body old new other (inr a) (inr b) = a.1 ∙ sym b.1

copy_one : (style : Style) (body old new other : List ℕ) → ShowsCopyBoth style body old new → ShowsCopyBoth style body old other → new ≡ other
copy_one style body old new other (inl a) (inl b) =
    let same = one_copy body a.0 b.0 a.1 b.1 a.2 b.2 in
    a.3 ∙ ap (λ f. followed style old (copy_parts f a.1)) same.0 ∙ ap (λ l. followed style old (copy_parts b.0 l)) same.1 ∙ sym b.3
copy_one style body old new other (inl a) (inr b) = absurd (b.0 a.0 a.1 a.2)
copy_one style body old new other (inr a) (inl b) = absurd (a.0 b.0 b.1 b.2)
copy_one style body old new other (inr a) (inr b) = a.1 ∙ sym b.1

unread_one : (style : Style) (tag : ℕ) (body : List ℕ) (e : Error) (old new other : List ℕ) → ShowsUnread style tag body e old new → ShowsUnread style tag body e old other → new ≡ other
unread_one style tag body e old new other (CallResult t a) (CallResult u b) = result_one style body _ new other a b
unread_one style tag body e old new other (CallResult t a) (CopyBoth u b) = absurd (omega (arith, t, u))
unread_one style tag body e old new other (CallResult t a) (Rejected u v b) = absurd (u t)
unread_one style tag body e old new other (CopyBoth t a) (CallResult u b) = absurd (omega (arith, t, u))
unread_one style tag body e old new other (CopyBoth t a) (CopyBoth u b) = copy_one style body _ new other a b
unread_one style tag body e old new other (CopyBoth t a) (Rejected u v b) = absurd (v t)
unread_one style tag body e old new other (Rejected t u a) (CallResult v b) = absurd (t v)
unread_one style tag body e old new other (Rejected t u a) (CopyBoth v b) = absurd (u v)
unread_one style tag body e old new other (Rejected t u a) (Rejected v w b) = a ∙ sym b

inside_one : (standby : Bool) (style : Style) (bytes old new other : List ℕ) → ShowsInner standby style bytes old new → ShowsInner standby style bytes old other → new ≡ other
inside_one standby style bytes old new other (inl a) (inl b) = a.2 ∙ ap (λ m. followed style old (inner_parts m)) (one_inner standby bytes a.0 b.0 a.1 b.1) ∙ sym b.2
inside_one standby style bytes old new other (inl a) (inr b) = absurd (b.0 a.0 a.1)
inside_one standby style bytes old new other (inr a) (inl b) = absurd (a.0 b.0 b.1)
inside_one standby style bytes old new other (inr a) (inr b) = a.1 ∙ sym b.1

says_one : (inside : Option (List ℕ)) (style : Style) (m : Message) (old new other : List ℕ) → Says inside style m old new → Says inside style m old other → new ≡ other
says_one (Some bytes) style m old new other a b = inside_one false style bytes old new other a b
says_one None style m old new other a b = shows_one style m old new other a b

goes_one : (style : Style) (replicating : Bool) (tag : ℕ) (body : List ℕ) (r : Result Message Error) (old new other : List ℕ) → GoesOn style replicating tag body r old new → GoesOn style replicating tag body r old other → new ≡ other
goes_one style replicating tag body (Ok m) old new other a b = says_one (inner_data replicating m) style m (followed style old (called m ∷ [])) new other a b
goes_one style replicating tag body (Err e) old new other a b = unread_one style tag body e old new other a b

-- ---- a line

line_of_one : (style : Style) (place : ℕ) (replicating : Bool) (f : Frame) (line other : List ℕ) → IsFrame f → IsLineOf style place replicating f line → IsLineOf style place replicating f other → line ≡ other
line_of_one style place replicating f line other fits a b =
    let result : a.result ≡ b.result = sym (one_body f.tag f.payload a.result fits.payload a.body) ∙ one_body f.tag f.payload b.result fits.payload b.body in
    let reported = subst (λ r. GoesOn style replicating f.tag f.payload r (front style place f) a.text) result a.reported in
    a.ended ∙ ap (λ t. t ++ closing style ++ 10 ∷ []) (goes_one style replicating f.tag f.payload b.result (front style place f) a.text b.text reported b.reported) ∙ sym b.ended

pub one_read : (f g : Frame) (r s : Result Message Error) → IsFrame f → f ≡ g → Body f.tag f.payload r → Body g.tag g.payload s → r ≡ s
one_read f g r s fits e a b = sym (one_body f.tag f.payload r fits.payload a) ∙ one_body f.tag f.payload s fits.payload (subst (λ (h : Frame). Body h.tag h.payload s) (sym e) b)

same_name : (f g : Frame) (r s : Result Message Error) → f ≡ g → r ≡ s → server_name f.tag r ≡ server_name g.tag s
same_name f g r s e h = ap (λ (k : Frame). server_name k.tag r) e ∙ ap (server_name g.tag) h

server_one : (style : Style) (place : ℕ) (replicating : Bool) (f g line other x y : List ℕ) (a : IsServerLine style place replicating f line) (b : IsServerLine style place replicating g other) → f ++ x ≡ g ++ y
    → (f ≡ g) × (line ≡ other) × (x ≡ y) × (server_name a.first.tag a.reported.result ≡ server_name b.first.tag b.reported.result)
server_one style place replicating f g line other x y a b e =
    let one = front_is_one a.first b.first x y a.fits b.fits (ap (λ l. l ++ x) (sym a.whole) ∙ e ∙ ap (λ l. l ++ y) b.whole) in
    let reported = subst (λ (h : Frame). IsLineOf style place replicating h line) one.0 a.reported in (
      a.whole ∙ ap frame_bytes one.0 ∙ sym b.whole,
      line_of_one style place replicating b.first line other b.fits reported b.reported,
      one.1,
      same_name a.first b.first a.reported.result b.reported.result one.0 (one_read a.first b.first a.reported.result b.reported.result a.fits one.0 a.reported.body b.reported.body),
    )

front_answer : (byte : ℕ) (f x y : List ℕ) (phase : Phase) → phase_behind byte ≡ Some phase → byte ∷ x ≡ f ++ y → 0 < length f → answered f ≡ None → ⊥
front_answer byte [] x y phase is e some none = absurd (omega (arith, some))
front_answer byte (z ∷ zs) x y phase is e some none = none_some phase (phase_behind byte) is (ap phase_behind (ap (λ l. get_or l 0 0) e) ∙ none)

same_phase : (a b : Phase) → (let x : Option Phase = Some a in x ≡ Some b) → a ≡ b
same_phase a b e = cc

answers_one : (style : Style) (place : ℕ) (f g line other x y : List ℕ) (p q : Phase) (a : IsAnswerLine style place f line p) (b : IsAnswerLine style place g other q) → f ++ x ≡ g ++ y
    → (f ≡ g) × (line ≡ other) × (x ≡ y) × (p ≡ q) × (answer_name a.byte ≡ answer_name b.byte)
answers_one style place f g line other x y p q a b e =
    let all : a.byte ∷ x ≡ b.byte ∷ y = ap (λ l. l ++ x) (sym a.whole) ∙ e ∙ ap (λ l. l ++ y) b.whole in
    let byte : a.byte ≡ b.byte = ap (λ l. get_or l 0 0) all in (
      a.whole ∙ ap (λ k. k ∷ []) byte ∙ sym b.whole,
      a.reported ∙ ap (answer_line style place) byte ∙ sym b.reported,
      ap (λ l. drop 1 l) all,
      same_phase p q (sym a.answers ∙ ap phase_behind byte ∙ b.answers),
      ap answer_name byte,
    )

pub same_result : (r s : Result ClientMessage ClientError) → step_of r ≡ step_of s → r ≡ s
same_result (Ok x) (Ok y) e = cc
same_result (Ok x) (Err d) e = absurd cc
same_result (Err d) (Ok y) e = absurd cc
same_result (Err d) (Err e) f = cc

client_says_one : (inside : Option (List ℕ)) (style : Style) (reported : Bool) (r : Result ClientMessage ClientError) (old new other : List ℕ) → ClientSays inside style reported r old new → ClientSays inside style reported r old other → new ≡ other
client_says_one (Some bytes) style reported r old new other a b = inside_one true style bytes (followed style old (Name false (codes "CopyData") ∷ [])) new other a b
client_says_one None style reported r old new other a b = a ∙ sym b

ends_so_one : (style : Style) (reported replicating : Bool) (r : Result ClientMessage ClientError) (front line other : List ℕ) → EndsSo style reported replicating r front line → EndsSo style reported replicating r front other → line ≡ other
ends_so_one style reported replicating r front line other a b =
    a.ended ∙ ap (λ t. t ++ closing style ++ 10 ∷ []) (client_says_one (client_data replicating r) style reported r front a.text b.text a.says b.says) ∙ sym b.ended

client_one : (style : Style) (place : ℕ) (opened : Bool) (kinds : List code.PasswordKind) (replicating : Bool) (f g line other x y : List ℕ) (to too : Side) (a : IsNextLine style place opened kinds replicating f line to) (b : IsNextLine style place opened kinds replicating g other too) → f ++ x ≡ g ++ y
    → SameFirst f g line other x y to too × (client_frame_name (is_reported kinds) a.reported.result ≡ client_frame_name (is_reported kinds) b.reported.result)
client_one style place opened kinds replicating f g line other x y to too a b e =
    let one = one_first opened a.now b.now kinds f g x y a.reported.result b.reported.result a.reported.step b.reported.step e in
    let step = subst (λ l. Step (expected kinds) (record { bytes = l; opened = opened }) (step_of a.reported.result) (record { bytes = []; opened = a.now })) one.0 a.reported.step in
    let both = step_one (expected kinds) (record { bytes = g; opened = opened }) (record { bytes = []; opened = a.now }) (record { bytes = []; opened = b.now }) (step_of a.reported.result) (step_of b.reported.result) step b.reported.step in
    let result = same_result a.reported.result b.reported.result both.0 in (
      record {
        frames = one.0;
        texts = ends_so_one style (is_reported kinds) replicating b.reported.result (client_front style place opened g) line other
            (subst (λ l. EndsSo style (is_reported kinds) replicating b.reported.result (client_front style place opened l) line) one.0
            (subst (λ r. EndsSo style (is_reported kinds) replicating r (client_front style place opened f) line) result a.reported.reported)) b.reported.reported;
        rests = one.1;
        states = a.behind ∙ ap (λ n. Client n (kinds_behind opened f kinds) replicating) one.2 ∙ ap (λ l. Client b.now (kinds_behind opened l kinds) replicating) one.0 ∙ sym b.behind;
      },
      ap (client_frame_name (is_reported kinds)) result,
    )

pub line_one : (style : Style) (place : ℕ) (from to too : Side) (f g line other x y : List ℕ) (a : LineOf style place from f line to) (b : LineOf style place from g other too) → f ++ x ≡ g ++ y
    → SameFirst f g line other x y to too × (name_in style place from f line to a ≡ name_in style place from g other too b)
line_one style place (Server Beginning) to too f g line other x y (inl a) (inl b) e =
    let one = answers_one style place f g line other x y a.phase b.phase a.reported b.reported e in
    (record { frames = one.0; texts = one.1; rests = one.2; states = a.behind ∙ ap Server one.3 ∙ sym b.behind }, one.4)
line_one style place (Server Beginning) to too f g line other x y (inl a) (inr b) e =
    absurd (front_answer a.reported.byte g x y a.phase a.reported.answers (ap (λ l. l ++ x) (sym a.reported.whole) ∙ e) (frame_has style place (Server Beginning) too g other (inr b)) b.none)
line_one style place (Server Beginning) to too f g line other x y (inr a) (inl b) e =
    absurd (front_answer b.reported.byte f y x b.phase b.reported.answers (ap (λ l. l ++ y) (sym b.reported.whole) ∙ sym e) (frame_has style place (Server Beginning) to f line (inr a)) a.none)
line_one style place (Server Beginning) to too f g line other x y (inr a) (inr b) e =
    let one = server_one style place false f g line other x y a.reported b.reported e in
    (record { frames = one.0; texts = one.1; rests = one.2; states = a.behind ∙ ap (λ l. server_at (replicates_behind false l)) one.0 ∙ sym b.behind }, one.3)
line_one style place (Server Messages) to too f g line other x y a b e =
    let one = server_one style place false f g line other x y a.0 b.0 e in
    (record { frames = one.0; texts = one.1; rests = one.2; states = a.1 ∙ ap (λ l. server_at (replicates_behind false l)) one.0 ∙ sym b.1 }, one.3)
line_one style place (Server Replicating) to too f g line other x y a b e =
    let one = server_one style place true f g line other x y a.0 b.0 e in
    (record { frames = one.0; texts = one.1; rests = one.2; states = a.1 ∙ ap (λ l. server_at (replicates_behind true l)) one.0 ∙ sym b.1 }, one.3)
line_one style place (Server Encrypted) to too f g line other x y a b e = absurd a
line_one style place (Client opened kinds replicating) to too f g line other x y a b e = client_one style place opened kinds replicating f g line other x y to too a b e

-- ---- an end

server_end : (style : Style) (place : ℕ) (replicating stopped : Bool) (rest f line x : List ℕ) → IsEnding stopped rest → IsServerLine style place replicating f line → rest ≡ f ++ x → ⊥
server_end style place replicating stopped rest f line x ends is e = no_ending is.first x stopped is.fits (subst (IsEnding stopped) (e ∙ ap (λ l. l ++ x) is.whole) ends)

no_silence : (r : Result ClientMessage ClientError) → step_of r ≡ Ok None → ⊥
no_silence (Ok x) e = absurd cc
no_silence (Err d) e = absurd cc

packet_step : (opened : Bool) (kinds : List code.PasswordKind) (rest : List ℕ) (r : IsRefusedPacket opened rest) → Refuses (expected kinds) (record { bytes = rest; opened = opened }) r.error (record { bytes = rest; opened = opened })
packet_step opened kinds rest r = record { none = r.none (expected kinds); left = inr (inr (record { payload = r.payload; rest = r.rest; phase = r.phase; fits = r.fits; whole = r.whole; same = refl; blames = r.blames })) }

-- what stays where it is isn't what takes a frame
stays_there : (opened now : Bool) (kinds : List code.PasswordKind) (rest x f : List ℕ) (d : ClientError) (r : Result ClientMessage ClientError) → 0 < length f → rest ≡ f ++ x
    → Refuses (expected kinds) (record { bytes = rest; opened = opened }) d (record { bytes = rest; opened = opened }) → Step (expected kinds) (record { bytes = rest; opened = opened }) (step_of r) (record { bytes = x; opened = now }) → ⊥
stays_there opened now kinds rest x f d r some e stays takes =
    let one = step_one (expected kinds) (record { bytes = rest; opened = opened }) (record { bytes = rest; opened = opened }) (record { bytes = x; opened = now }) (Err d) (step_of r) stays takes in
    omega (arith, some, ap length e, length-append f x, ap length (ap (λ (u : Unread). u.bytes) one.1))

client_end : (opened now stopped : Bool) (kinds : List code.PasswordKind) (replicating : Bool) (rest x f : List ℕ) (r : Result ClientMessage ClientError) → 0 < length f → rest ≡ f ++ x → Ends (Client opened kinds replicating) stopped rest
    → Step (expected kinds) (record { bytes = rest; opened = opened }) (step_of r) (record { bytes = x; opened = now }) → ⊥
client_end opened now false kinds replicating rest x f r some e part takes = no_silence r (partial_waits (expected kinds) opened rest (step_of r) (record { bytes = x; opened = now }) part takes)
client_end opened now true kinds replicating rest x f r some e (inl fault) takes = stays_there opened now kinds rest x f (Reading InvalidLength) r some e (step_fault (expected kinds) opened rest InvalidLength (refl, fault)) takes
client_end opened now true kinds replicating rest x f r some e (inr packet) takes = stays_there opened now kinds rest x f packet.error r some e (packet_step opened kinds rest packet) takes

-- where none stands first, no frame does
pub no_line : (style : Style) (place : ℕ) (from to : Side) (stopped : Bool) (rest f line x : List ℕ) → Ends from stopped rest → LineOf style place from f line to → rest ≡ f ++ x → ⊥
no_line style place (Server Beginning) to stopped rest f line x ends (inl a) e =
    none_some a.phase (phase_behind a.reported.byte) a.reported.answers (sym (ap answered (e ∙ ap (λ l. l ++ x) a.reported.whole)) ∙ ends.0)
no_line style place (Server Beginning) to stopped rest f line x ends (inr a) e = server_end style place false stopped rest f line x ends.1 a.reported e
no_line style place (Server Messages) to stopped rest f line x ends a e = server_end style place false stopped rest f line x ends a.0 e
no_line style place (Server Replicating) to stopped rest f line x ends a e = server_end style place true stopped rest f line x ends a.0 e
no_line style place (Server Encrypted) to stopped rest f line x ends a e = a
no_line style place (Client opened kinds replicating) to stopped rest f line x ends a e =
    let takes = subst (λ l. Step (expected kinds) (record { bytes = l; opened = opened }) (step_of a.reported.result) (record { bytes = x; opened = a.now })) (sym e) (behind opened a.now kinds f x a.reported.result a.reported.step) in
    client_end opened a.now stopped kinds replicating rest x f a.reported.result (frame_has style place (Client opened kinds replicating) to f line a) e ends takes

server_ends : (s t : Bool) (rest : List ℕ) → IsEnding s rest → IsEnding t rest → s ≡ t
server_ends s t rest a b =
    (runs_one rest [] [] s t rest rest (record { run = frames_none rest; ending = a }) (record { run = frames_none rest; ending = b })).1

refuses_silence : (d : ClientError) → (let x : Result (Option ClientMessage) ClientError = Err d in x ≡ Ok None) → ⊥
refuses_silence d e = cc

-- a partial frame, and what stays where it is
never_waits : (opened : Bool) (kinds : List code.PasswordKind) (rest : List ℕ) (d : ClientError) → IsPartial opened rest → Refuses (expected kinds) (record { bytes = rest; opened = opened }) d (record { bytes = rest; opened = opened }) → ⊥
never_waits opened kinds rest d part stays = refuses_silence d (partial_waits (expected kinds) opened rest (Err d) (record { bytes = rest; opened = opened }) part stays)

stops_there : (opened : Bool) (kinds : List code.PasswordKind) (replicating : Bool) (rest : List ℕ) → IsPartial opened rest → Ends (Client opened kinds replicating) true rest → ⊥
stops_there opened kinds replicating rest part (inl fault) = never_waits opened kinds rest (Reading InvalidLength) part (step_fault (expected kinds) opened rest InvalidLength (refl, fault))
stops_there opened kinds replicating rest part (inr packet) = never_waits opened kinds rest packet.error part (packet_step opened kinds rest packet)

pub ends_one : (from : Side) (s t : Bool) (rest : List ℕ) → Ends from s rest → Ends from t rest → s ≡ t
ends_one (Server Beginning) s t rest a b = server_ends s t rest a.1 b.1
ends_one (Server Messages) s t rest a b = server_ends s t rest a b
ends_one (Server Replicating) s t rest a b = server_ends s t rest a b
ends_one (Server Encrypted) false false rest a b = refl
ends_one (Server Encrypted) true true rest a b = refl
ends_one (Server Encrypted) false true rest a b = absurd (omega (arith, ap length a, b))
ends_one (Server Encrypted) true false rest a b = absurd (omega (arith, ap length b, a))
ends_one (Client opened kinds replicating) false false rest a b = refl
ends_one (Client opened kinds replicating) true true rest a b = refl
ends_one (Client opened kinds replicating) false true rest a b = absurd (stops_there opened kinds replicating rest a b)
ends_one (Client opened kinds replicating) true false rest a b = absurd (stops_there opened kinds replicating rest b a)

-- ---- lines, the first at first

text_one : (view : View) (place : ℕ) (from to too : Side) (f g text other x y : List ℕ) → Listed view place from f text to → Listed view place from g other too → f ++ x ≡ g ++ y → SameFirst f g text other x y to too
text_one view place from to too f g text other x y a b e =
    let one = line_one view.style place from to too f g a.line b.line x y a.reported b.reported e in
    record {
      frames = one.0.frames;
      texts = a.is ∙ ap (λ n. shown view n a.line) one.1 ∙ ap (shown view (name_in view.style place from g b.line too b.reported)) one.0.texts ∙ sym b.is;
      rests = one.0.rests;
      states = one.0.states;
    }

-- and where none stands first, none is listed
no_text : (view : View) (place : ℕ) (from to : Side) (stopped : Bool) (rest f text x : List ℕ) → Ends from stopped rest → Listed view place from f text to → rest ≡ f ++ x → ⊥
no_text view place from to stopped rest f text x ends has e = no_line view.style place from to stopped rest f has.line x ends has.reported e

pub one_listing : (view : View) (from : Side) (bytes output other : List ℕ) → IsListing view from bytes output → IsListing view from bytes other → output ≡ other
one_listing view from bytes output other a b =
    let same = rows_one (Listed view) Ends (text_one view) ends_one (no_text view) a.to b.to 0 from a.front b.front a.lines b.lines a.rest b.rest a.stopped b.stopped a.listed a.ending b.listed b.ending (sym a.whole ∙ b.whole) in
    a.text ∙ ap (λ l. l ++ last_line view a.stopped (place_behind (length a.rest))) same.texts ∙ ap (λ s. b.lines ++ last_line view s (place_behind (length a.rest))) same.ends
    ∙ ap (λ l. b.lines ++ last_line view b.stopped (place_behind (length l))) same.rests ∙ sym b.text
