-- What a frame that has a line is read as.
use Rattle.pgtrace_session.proofs.Common.{◌≡◌, ℕ, Bool, true, false, List, [], length, inl, inr, refl, sym, ap, subst, Response, step_of, step_one, Style, IsServerLine, LineOf, Side, expected, IsFrameOf, Beginning, Messages, Replicating, Encrypted, Sender, Client, Server, is_replicating, side_in, known_of, Heard, Said, Sent, Unsaid, said_in, ReadsSo, same_result}
use Rattle.pgp_frontend.specs.ClientMessage.{PasswordKind}
use Rattle.pgp_frontend_read.specs.Step as client
use Rattle.pgp_frontend_read.specs.declared.message.PasswordKind as code
use Rattle.pgtrace_lines.specs.Sides as side
use Rattle.pgtrace_lines.specs.declared.side.Phase.{Phase}
use Rattle.pgtrace_session.specs.declared.state.Known as code_known
use Rattle.pgtrace_session.proofs.Readings.{same_read, short}

frame_in : (style : Style) (place : ℕ) (replicating : Bool) (frame line : List ℕ) (is : IsServerLine style place replicating frame line) → IsFrameOf frame is.reported.result
frame_in style place replicating frame line is = record { first = is.first; whole = is.whole; fits = is.fits; body = is.reported.body }

server_reads : (style : Style) (place : ℕ) (phase : Phase) (frame line : List ℕ) (to : Side) (opened : Bool) (kind : PasswordKind) (is : LineOf style place (side.Server phase) frame line to)
    → ReadsSo Server opened kind frame (said_in style place (side.Server phase) frame line to is)
server_reads style place Beginning frame line to opened kind (inl answer) = ap length answer.reported.whole
server_reads style place Beginning frame line to opened kind (inr first) = frame_in style place false frame line first.reported
server_reads style place Messages frame line to opened kind is = frame_in style place false frame line is.0
server_reads style place Replicating frame line to opened kind is = frame_in style place true frame line is.0
server_reads style place Encrypted frame line to opened kind is = absurd is

client_reads : (style : Style) (place : ℕ) (opened : Bool) (kinds : List code.PasswordKind) (replicating : Bool) (frame line : List ℕ) (to : Side) (is : LineOf style place (side.Client opened kinds replicating) frame line to)
    → ReadsSo Client opened (expected kinds) frame (said_in style place (side.Client opened kinds replicating) frame line to is)
client_reads style place opened kinds replicating frame line to is = (is.now, is.reported.step)

-- ---- what the code makes of it

-- what holds of each reading holds of this one
pub line_read : {A : Type 0} (P : Said → Type 0) (style : Style) (place : ℕ) (kept : code_known.Known A) (kind : PasswordKind) (frame line : List ℕ) (to : Side) → kind ≡ expected kept.kinds.items
    → (who : Sender) (is : LineOf style place (side_in who (known_of kept)) frame line to) → ((said : Said) → ReadsSo who kept.opened kind frame said → P said) → P (said_in style place (side_in who (known_of kept)) frame line to is)
line_read P style place kept kind frame line to same Client is all =
    let said = said_in style place (side_in Client (known_of kept)) frame line to is in
    all said (subst (λ k. ReadsSo Client kept.opened k frame said) (sym same) (client_reads style place kept.opened kept.kinds.items (is_replicating kept.phase) frame line to is))
line_read P style place kept kind frame line to same Server is all = all (said_in style place (side_in Server (known_of kept)) frame line to is) (server_reads style place kept.phase frame line to kept.opened kind is)

-- ---- a frame is read as one thing

reads_one : (who : Sender) (opened : Bool) (kind : PasswordKind) (frame : List ℕ) (x y : Said) → ReadsSo who opened kind frame x → ReadsSo who opened kind frame y → x ≡ y
reads_one Server opened kind frame (Heard r) (Heard s) a b = ap (λ t. Heard t) (same_read frame r s a b)
reads_one Server opened kind frame (Heard r) Unsaid a b = absurd (short frame r a b)
reads_one Server opened kind frame Unsaid (Heard s) a b = absurd (short frame s b a)
reads_one Server opened kind frame Unsaid Unsaid a b = refl
reads_one Server opened kind frame (Sent r) y a b = absurd a
reads_one Server opened kind frame x (Sent s) a b = absurd b
reads_one Client opened kind frame (Sent r) (Sent s) a b =
    let here : client.Unread = record { bytes = frame; opened = opened } in
    ap (λ t. Sent t) (same_result r s (step_one kind here (record { bytes = []; opened = a.0 }) (record { bytes = []; opened = b.0 }) (step_of r) (step_of s) a.1 b.1).0)
reads_one Client opened kind frame (Heard r) y a b = absurd a
reads_one Client opened kind frame Unsaid y a b = absurd a
reads_one Client opened kind frame x (Heard s) a b = absurd b
reads_one Client opened kind frame x Unsaid a b = absurd b

-- a frame of a side, with two lines
pub said_one : (style : Style) (place : ℕ) (from : Side) (frame other line another : List ℕ) (to too : Side) → frame ≡ other → (a : LineOf style place from frame line to) → (b : LineOf style place from other another too)
    → said_in style place from frame line to a ≡ said_in style place from other another too b
said_one style place (side.Server phase) frame other line another to too e a b =
    let x = said_in style place (side.Server phase) frame line to a in
    let y = said_in style place (side.Server phase) other another too b in
    reads_one Server false Response frame x y (server_reads style place phase frame line to false Response a) (subst (λ f. ReadsSo Server false Response f y) (sym e) (server_reads style place phase other another too false Response b))
said_one style place (side.Client opened kinds replicating) frame other line another to too e a b =
    let x = said_in style place (side.Client opened kinds replicating) frame line to a in
    let y = said_in style place (side.Client opened kinds replicating) other another too b in
    reads_one Client opened (expected kinds) frame x y (client_reads style place opened kinds replicating frame line to a)
    (subst (λ f. ReadsSo Client opened (expected kinds) f y) (sym e) (client_reads style place opened kinds replicating other another too b))
