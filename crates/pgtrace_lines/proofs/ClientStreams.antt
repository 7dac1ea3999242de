-- A client's streams that differ in their secrets alone have the same lines.
use Rattle.pgtrace_lines.proofs.Common.{◌≡◌, ℕ, ◌<◌, Bool, true, false, List, [], ◌∷◌, ◌++◌, length, drop, Option, Some, None, Result, Ok, Err, refl, sym, ap, subst, ◌∙◌, arith, ◌==◌, if◌then◌else◌, ClientMessage, SaslResponse, step_of, Unread, Step, ClientError, step_one, Style, ClientSays, client_copied, client_data, client_line, client_name, Length, Tag, followed, opening, EndsSo, IsNextLine, Listed, Lines, Rows, client_frame_name, client_front, client_tag, View, shown, quiet, quietly, Side, Client, expected, is_password, is_reported, kinds_behind}
use Rattle.pgp_frontend_read.specs.declared.message.PasswordKind as code
use Rattle.pgp_frontend_read.proofs.Pieces.{took}
use Rattle.pgp_frontend_read.proofs.Handing.{refused_behind}
use Rattle.pgtrace_lines.specs.ClientSecrets.{AlikeMessages, AlikeAnswers, AlikeClientFrames, AlikeClientStreams, NoClientFrames, OneClientAlike, ReadsAs}
use Rattle.pgtrace_lines.proofs.ClientLines.{step_long}
use Rattle.pgtrace_lines.proofs.Parts.{front_taken}
use Rattle.pgtrace_lines.proofs.Rows.{InOrder, NoMore, Replaced, in_order, replaced, row_more, rows_again}
use Rattle.pgtrace_lines.proofs.Shorter.{frame_some}
use Rattle.pgtrace_lines.proofs.AlikeCases.{answers_alike, sent_alike}
use Rattle.pgtrace_lines.proofs.ClientHiding.{password, initial, response, key, unreported}

-- ---- messages

abbrev Reported : Style → Bool → ClientMessage → ClientMessage → List ℕ → Type 0
Reported style reported x y old = client_line (quiet style) reported (Ok x) old ≡ client_line (quiet style) reported (Ok y) old

responses_alike : (style : Style) (reported : Bool) (a b old : List ℕ) → length a ≡ length b → Reported style reported (SaslResponse a) (SaslResponse b) old
responses_alike style true a b old e = response style a b old e
responses_alike style false a b old e = unreported (quiet style) a b old e

lines_alike : (style : Style) (reported : Bool) (r s : Result ClientMessage ClientError) (old : List ℕ) → AlikeAnswers r s → client_line (quiet style) reported r old ≡ client_line (quiet style) reported s old
lines_alike style reported r s old alike =
    answers_alike (λ r s. client_line (quiet style) reported r old ≡ client_line (quiet style) reported s old)
    (sent_alike (λ x y. Reported style reported x y old) (λ m. refl) (λ a b e. password style reported a b old e) (λ m a b e. initial style reported m a b old e) (λ a b e. responses_alike style reported a b old e) (λ p a b e. key style reported p a b old e))
    (λ e. refl) r s alike

-- ---- frames

same_front : (style : Style) (place : ℕ) (opened : Bool) (f g : List ℕ) → client_tag opened f ≡ client_tag opened g → length f ≡ length g → client_front style place opened f ≡ client_front style place opened g
same_front style place opened f g t n =
    ap (λ k. followed style (opening style place) (Length k ∷ Tag (client_tag opened f) ∷ [])) n ∙ ap (λ k. followed style (opening style place) (Length (length g) ∷ Tag k ∷ [])) t

same_password : (opened : Bool) (f g : List ℕ) → client_tag opened f ≡ client_tag opened g → length f ≡ length g → is_password opened f ≡ is_password opened g
same_password false f g t n = refl
same_password true [] [] t n = refl
same_password true [] (y ∷ ys) t n = absurd (omega (arith, n))
same_password true (x ∷ xs) [] t n = absurd (omega (arith, n))
same_password true (x ∷ xs) (y ∷ ys) t n = ap (λ k. k == 112) t

same_kinds : (opened : Bool) (kinds : List code.PasswordKind) (f g : List ℕ) → client_tag opened f ≡ client_tag opened g → length f ≡ length g → kinds_behind opened f kinds ≡ kinds_behind opened g kinds
same_kinds opened kinds f g t n = ap (λ (p : Bool). if p then drop 1 kinds else kinds) (same_password opened f g t n)

-- what stands in the listing of a client's frame
record Told (view : View) (place : ℕ) (opened : Bool) (kinds : List code.PasswordKind) (replicating : Bool) (frame text : List ℕ) (to : Side) : Type 0 where
  line : List ℕ
  reported : IsNextLine view.style place opened kinds replicating frame line to
  is : text ≡ shown view (client_frame_name (is_reported kinds) reported.reported.result) line

message_names : (reported : Bool) (x y : ClientMessage) → AlikeMessages x y → client_name reported x ≡ client_name reported y
message_names true x y alike = sent_alike (λ x y. client_name true x ≡ client_name true y) (λ m. refl) (λ a b e. refl) (λ m a b e. refl) (λ a b e. refl) (λ p a b e. refl) x y alike
message_names false x y alike = sent_alike (λ x y. client_name false x ≡ client_name false y) (λ m. refl) (λ a b e. refl) (λ m a b e. refl) (λ a b e. refl) (λ p a b e. refl) x y alike

pub names_alike : (reported : Bool) (r s : Result ClientMessage ClientError) → AlikeAnswers r s → client_frame_name reported r ≡ client_frame_name reported s
names_alike reported r s alike = answers_alike (λ r s. client_frame_name reported r ≡ client_frame_name reported s) (message_names reported) (λ e. refl) r s alike

data_alike : (replicating : Bool) (r s : Result ClientMessage ClientError) → AlikeAnswers r s → client_data replicating r ≡ client_data replicating s
data_alike false r s alike = refl
data_alike true r s alike =
    answers_alike (λ r s. client_data true r ≡ client_data true s)
    (sent_alike (λ x y. client_copied x ≡ client_copied y) (λ m. refl) (λ a b e. refl) (λ m a b e. refl) (λ a b e. refl) (λ p a b e. refl)) (λ e. refl) r s alike

says_alike : (inside : Option (List ℕ)) (style : Style) (reported : Bool) (r s : Result ClientMessage ClientError) (old new : List ℕ) → AlikeAnswers r s → ClientSays inside (quiet style) reported r old new → ClientSays inside (quiet style) reported s old new
says_alike (Some bytes) style reported r s old new h says = says
says_alike None style reported r s old new h says = says ∙ lines_alike style reported r s old h

ends_alike_so : (style : Style) (reported replicating : Bool) (r s : Result ClientMessage ClientError) (front line : List ℕ) → AlikeAnswers r s → EndsSo (quiet style) reported replicating r front line → EndsSo (quiet style) reported replicating s front line
ends_alike_so style reported replicating r s front line h ends = record {
  text = ends.text;
  says = subst (λ o. ClientSays o (quiet style) reported s front ends.text) (data_alike replicating r s h) (says_alike (client_data replicating r) style reported r s front ends.text h ends.says);
  ended = ends.ended;
}

-- a frame that is alike has the same line
pub record LineHidden (style : Style) (place : ℕ) (opened : Bool) (kinds : List code.PasswordKind) (replicating : Bool) (g line : List ℕ) (to : Side) (result : Result ClientMessage ClientError) : Type 0 where
  pub is : IsNextLine (quiet style) place opened kinds replicating g line to
  pub same : AlikeAnswers result is.reported.result

pub line_hidden : (style : Style) (place : ℕ) (opened : Bool) (kinds : List code.PasswordKind) (replicating : Bool) (f g line : List ℕ) (to : Side) → AlikeClientFrames opened kinds f g
    → (is : IsNextLine (quiet style) place opened kinds replicating f line to) → LineHidden style place opened kinds replicating g line to is.reported.result
line_hidden style place opened kinds replicating f g line to alike is =
    let (s, reads, same) = alike.read is.reported.result is.now is.reported.step in
    record {
      is = record {
        now = is.now;
        reported = record {
          result = s;
          step = reads;
          reported = subst (λ l. EndsSo (quiet style) (is_reported kinds) replicating s l line) (same_front (quiet style) place opened f g alike.tagged alike.long)
              (ends_alike_so style (is_reported kinds) replicating is.reported.result s (client_front (quiet style) place opened f) line same is.reported.reported);
        };
        behind = is.behind ∙ ap (λ k. Client is.now k replicating) (same_kinds opened kinds f g alike.tagged alike.long);
      };
      same = same;
    }

line_alike : (view : View) (place : ℕ) (opened : Bool) (kinds : List code.PasswordKind) (replicating : Bool) (f g text : List ℕ) (to : Side) → AlikeClientFrames opened kinds f g
    → Told (quietly view) place opened kinds replicating f text to → Told (quietly view) place opened kinds replicating g text to
line_alike view place opened kinds replicating f g text to alike told =
    let hidden = line_hidden view.style place opened kinds replicating f g told.line to alike told.reported in
    record {
      line = told.line;
      reported = hidden.is;
      is = told.is ∙ ap (λ n. shown (quietly view) n told.line) (names_alike (is_reported kinds) told.reported.reported.result hidden.is.reported.result hidden.same);
    }

-- a step, with bytes after it
pub behind : (opened now : Bool) (kinds : List code.PasswordKind) (f more : List ℕ) (r : Result ClientMessage ClientError) → ReadsAs opened kinds f r now
    → Step (expected kinds) (record { bytes = f ++ more; opened = opened }) (step_of r) (record { bytes = more; opened = now })
behind opened now kinds f more (Ok x) step = took (expected kinds) (record { bytes = f; opened = opened }) (record { bytes = []; opened = now }) x more step
behind opened now kinds f more (Err e) step = refused_behind (expected kinds) (record { bytes = f; opened = opened }) (record { bytes = []; opened = now }) e more step

same_end : (f g r : List ℕ) → f ++ r ≡ g ++ r → f ≡ g
same_end f g r e = sym (front_taken f r (f ++ r) refl) ∙ front_taken g r (f ++ r) e

pub one_first : (opened now later : Bool) (kinds : List code.PasswordKind) (f g x y : List ℕ) (r s : Result ClientMessage ClientError) → ReadsAs opened kinds f r now → ReadsAs opened kinds g s later → f ++ x ≡ g ++ y
    → (f ≡ g) × (x ≡ y) × (now ≡ later)
one_first opened now later kinds f g x y r s a b e =
    let moved = subst (λ l. Step (expected kinds) (record { bytes = l; opened = opened }) (step_of r) (record { bytes = x; opened = now })) e (behind opened now kinds f x r a) in
    let one = step_one (expected kinds) (record { bytes = g ++ y; opened = opened }) (record { bytes = x; opened = now }) (record { bytes = y; opened = later }) (step_of r) (step_of s) moved (behind opened later kinds g y s b) in
    let rest : x ≡ y = ap (λ (u : Unread). u.bytes) one.1 in
    (same_end f g y (ap (λ l. f ++ l) (sym rest) ∙ e), rest, ap (λ (u : Unread). u.opened) one.1)

-- ---- streams

-- a frame, and one that is like it
record Pair (place : ℕ) (here : Side) (f g : List ℕ) (to : Side) : Type 0 where
  opened : Bool
  now : Bool
  kinds : List code.PasswordKind
  replicating : Bool
  result : Result ClientMessage ClientError
  is : here ≡ Client opened kinds replicating
  reads : ReadsAs opened kinds f result now
  alike : AlikeClientFrames opened kinds f g
  behind : to ≡ Client now (kinds_behind opened f kinds) replicating

pairs : (from : Side) (a b : List ℕ) (to : Side) → AlikeClientStreams from a b to → InOrder Pair to 0 from a b
pairs from [] [] _ NoClientFrames = NoMore
pairs from _ _ _ (OneClientAlike {a = a} {b = b} {opened = opened} {now = now} {replicating = replicating} {kinds = kinds} result f g before reads alike) =
    row_more Pair (Client opened kinds replicating) 0 from (Client now (kinds_behind opened f kinds) replicating) a b f g (pairs from a b (Client opened kinds replicating) before)
    (record { opened = opened; now = now; kinds = kinds; replicating = replicating; result = result; is = refl; reads = reads; alike = alike; behind = refl })

some_pair : (place : ℕ) (here to : Side) (f g : List ℕ) → Pair place here f g to → 0 < length f
some_pair place here to f g p = omega (arith, step_long (expected p.kinds) (record { bytes = f; opened = p.opened }) (record { bytes = []; opened = p.now }) p.result p.reads)

abbrev Meet : Side → Side → Side → Type 0
Meet s u w = (s ≡ u) × (w ≡ u)

module _ (view : View) where
  abbrev One : ℕ → Side → List ℕ → List ℕ → Side → Type 0
  One place here frame text to = Listed (quietly view) place here frame text to

  hides : (place q : ℕ) (s t u v w : Side) (f h g text x y : List ℕ) → Meet s u w → One place s f text t → Pair q u h g v → f ++ x ≡ h ++ y → Replaced One (λ k n. Meet k v n) place w f h g text x y t
  hides place q s t u v w f h g text x y at has pair e =
      let there = subst (λ k. One place k f text t) (at.0 ∙ pair.is) has in
      let told : Told (quietly view) place pair.opened pair.kinds pair.replicating f text t = record { line = there.line; reported = there.reported; is = there.is } in
      let one = one_first pair.opened told.reported.now pair.now pair.kinds f h x y told.reported.reported.result pair.result told.reported.reported.step pair.reads e in
      let new = line_alike view place pair.opened pair.kinds pair.replicating f g text t (subst (λ l. AlikeClientFrames pair.opened pair.kinds l g) (sym one.0) pair.alike) told in
      let same : t ≡ v = told.reported.behind ∙ ap (λ n. Client n (kinds_behind pair.opened f pair.kinds) pair.replicating) one.2 ∙ ap (λ l. Client pair.now (kinds_behind pair.opened l pair.kinds) pair.replicating) one.0 ∙ sym pair.behind in
      record {
        frames = one.0;
        rests = one.1;
        long = ap length one.0 ∙ pair.alike.long;
        state = t;
        is = subst (λ k. One place k g text t) (sym (at.1 ∙ pair.is)) (record { line = new.line; reported = new.reported; is = new.is });
        at = (same, same);
      }

  pub client_streams_hidden : (start : ℕ) (opened : Bool) (kinds : List code.PasswordKind) (replicating : Bool) (a b lines : List ℕ) (to behind : Side) → AlikeClientStreams (Client opened kinds replicating) a b behind
      → Lines (quietly view) start (Client opened kinds replicating) a lines to → Lines (quietly view) start (Client opened kinds replicating) b lines to
  client_streams_hidden start opened kinds replicating a b lines to behind alike listed =
      let from = Client opened kinds replicating in
      let all = replaced One Pair One Meet hides (frame_some (quietly view)) some_pair to behind start 0 from from from a lines a b (refl, refl) (in_order One start from to a lines listed) (pairs from a b behind alike) refl in
      subst (Rows One start from b lines) (all.at.1 ∙ sym all.at.0) (rows_again One all.state start from b lines all.rows)
