-- However a client's connection is cut into pieces, the bytes as a whole give the same.
use Rattle.pgp_frontend_read.proofs.Common.{◌≡◌, ℕ, false, List, [], ◌∷◌, ◌++◌, Option, Some, None, Result, Ok, Err, refl, sym, ap, subst, ◌∙◌, append_assoc, inl, inr, flat_map, ClientMessage, PasswordKind, ClientRun, Reads, HasRead, IsAllRead, next_kind, kinds_behind, Unread, Step, Waiting, unread, ClientError, append-nil}
use Rattle.pgp_frontend_read.specs.PieceReads.{Received, Gives, ReadsPiece, ReadsPieces, messages_of, piece_of}
use Rattle.pgp_frontend_read.proofs.OneStep.{step_one}
use Rattle.pgp_frontend_read.proofs.Pieces.{pieces_read}
use Rattle.pgp_frontend_read.proofs.Runs.{session_read, cons, is_message, no_end}
use Rattle.pgp_frontend_read.proofs.Steps.{left}

same_unread : (old new : Waiting) (piece rest : List ℕ) → new ≡ old → rest ≡ piece → unread new rest ≡ unread old piece
same_unread old new piece rest w p = ap (λ (w : Waiting). unread w rest) w ∙ ap (unread old) p

pub call_steps : (lacks : Type 0) (kind : PasswordKind) (old new : Waiting) (piece rest : List ℕ) (r : Result (Option ClientMessage) ClientError) → Gives lacks kind old piece r new rest → Step kind (unread old piece) r (unread new rest)
call_steps lacks kind old new piece rest (Ok (Some m)) x = x.found.1.steps kind (Ok m) x.reported
call_steps lacks kind old new piece rest (Ok None) x = (x.1, x.2)
call_steps lacks kind old new piece rest (Err e) (inl x) = x.found.1.steps kind (Err e) x.reported
call_steps lacks kind old new piece rest (Err e) (inr x) = subst (λ (u : Unread). Step kind (unread old piece) (Err e) u) (sym (same_unread old new piece rest x.2.held x.2.in_piece)) (x.1 kind)

-- one piece is read as its bytes after those that are held
pub piece_read : (lacks : Type 0) (kinds rest : List PasswordKind) (old new : Waiting) (piece behind : List ℕ) (messages : List ClientMessage) (end : Result (Option ClientMessage) ClientError)
    → ReadsPiece lacks kinds old piece messages end rest new behind → Reads kinds (unread old piece) messages end (unread new behind)
piece_read lacks kinds rest old new piece behind [] end x = (call_steps lacks (next_kind kinds) old new piece behind end x.0, x.1)
piece_read lacks kinds rest old new piece behind (m ∷ messages) end x =
    (unread x.0 x.1, call_steps lacks (next_kind kinds) old x.0 piece x.1 (Ok (Some m)) x.2, piece_read lacks (kinds_behind m kinds) rest x.0 new x.1 behind messages end x.3)

-- and as far as its messages go
piece_has_read : (lacks : Type 0) (kinds rest : List PasswordKind) (old new : Waiting) (piece behind : List ℕ) (messages : List ClientMessage)
    → ReadsPiece lacks kinds old piece messages (Ok None) rest new behind → HasRead kinds (unread old piece) messages rest (left new.bytes new.opened)
piece_has_read lacks kinds rest old new piece behind [] x =
    let none : unread new behind ≡ left new.bytes new.opened = ap (λ l. left (new.bytes ++ l) new.opened) x.0.3 ∙ ap (λ l. left l new.opened) (append-nil new.bytes) in
    (x.2, sym none ∙ x.0.2)
piece_has_read lacks kinds rest old new piece behind (m ∷ messages) x =
    (unread x.0 x.1, call_steps lacks (next_kind kinds) old x.0 piece x.1 (Ok (Some m)) x.2, piece_has_read lacks (kinds_behind m kinds) rest x.0 new x.1 behind messages x.3)

pub pieces_read_on : (lacks : Type 0) (kinds others : List PasswordKind) (old here : Waiting) (new : Unread) (received : List Received) (last : List ℕ) (messages : List ClientMessage) (end : Result (Option ClientMessage) ClientError)
    → ReadsPieces lacks kinds old received others here → Reads others (unread here last) messages end new
    → Reads kinds (unread old (flat_map piece_of received ++ last)) (flat_map messages_of received ++ messages) end new
pieces_read_on lacks kinds others old here new [] last messages end x r =
    subst (λ (w : Waiting). Reads kinds (unread w last) messages end new) x.1 (subst (λ ks. Reads ks (unread here last) messages end new) x.0 r)
pieces_read_on lacks kinds others old here new (p ∷ received) last messages end x r =
    let on : Reads x.0 (unread x.1 (flat_map piece_of received ++ last)) (flat_map messages_of received ++ messages) end new = pieces_read_on lacks x.0 others x.1 here new received last messages end x.4 r in
    let front : HasRead kinds (unread old p.piece) p.messages x.0 (left x.1.bytes x.1.opened) = piece_has_read lacks kinds x.0 old x.1 p.piece x.2 p.messages x.3 in
    let all : Reads kinds (left ((old.bytes ++ p.piece) ++ (flat_map piece_of received ++ last)) old.opened) (p.messages ++ (flat_map messages_of received ++ messages)) end new =
    pieces_read kinds x.0 (unread old p.piece) (left x.1.bytes x.1.opened) new (flat_map piece_of received ++ last) p.messages (flat_map messages_of received ++ messages) end front on in
    let bytes : (old.bytes ++ p.piece) ++ (flat_map piece_of received ++ last) ≡ old.bytes ++ (p.piece ++ flat_map piece_of received ++ last) =
    append_assoc old.bytes p.piece (flat_map piece_of received ++ last) ∙ ap (λ l. old.bytes ++ l) (sym (append_assoc p.piece (flat_map piece_of received) last)) in
    subst (λ ms. Reads kinds (unread old (p.piece ++ flat_map piece_of received ++ last)) ms end new) (sym (append_assoc p.messages (flat_map messages_of received) messages))
    (subst (λ l. Reads kinds (left l old.opened) (p.messages ++ (flat_map messages_of received ++ messages)) end new) bytes all)

-- ---- bytes are read in one way

pub record Same (all messages : List ClientMessage) (result end : Result (Option ClientMessage) ClientError) (behind new : Unread) : Type 0 where
  pub messages_are : all ≡ messages
  pub end_is : result ≡ end
  pub left_is : behind ≡ new

pub reads_one : (kinds : List PasswordKind) (old new behind : Unread) (all messages : List ClientMessage) (result end : Result (Option ClientMessage) ClientError)
    → Reads kinds old all result behind → Reads kinds old messages end new → Same all messages result end behind new
reads_one kinds old new behind [] [] result end x y = let s = step_one (next_kind kinds) old behind new result end x.0 y.0 in record { messages_are = refl; end_is = s.0; left_is = s.1 }
reads_one kinds old new behind [] (n ∷ messages) result end x y =
    let s = step_one (next_kind kinds) old behind y.0 result (Ok (Some n)) x.0 y.1 in absurd (no_end n result s.0 x.1)
reads_one kinds old new behind (m ∷ all) [] result end x y =
    let s = step_one (next_kind kinds) old new x.0 end (Ok (Some m)) y.0 x.1 in absurd (no_end m end s.0 y.1)
reads_one kinds old new behind (m ∷ all) (n ∷ messages) result end x y =
    let s = step_one (next_kind kinds) old x.0 y.0 (Ok (Some m)) (Ok (Some n)) x.1 y.1 in
    let same : m ≡ n = is_message m n s.0 in
    let on : Reads (kinds_behind n kinds) y.0 all result behind = subst (λ (u : Unread). Reads (kinds_behind n kinds) u all result behind) s.1 (subst (λ k. Reads (kinds_behind k kinds) x.0 all result behind) same x.2) in
    let more = reads_one (kinds_behind n kinds) y.0 new behind all messages result end on y.2 in
    record { messages_are = cons m n all messages same more.messages_are; end_is = more.end_is; left_is = more.left_is }

pub whole_given : (lacks : Type 0) (kinds others rest : List PasswordKind) (old here new : Waiting) (received : List Received) (last behind : List ℕ) (messages all : List ClientMessage) (end result : Result (Option ClientMessage) ClientError) (after : Unread)
    → ReadsPieces lacks kinds old received others here → ReadsPiece lacks others here last messages end rest new behind → Reads kinds (unread old (flat_map piece_of received ++ last)) all result after
    → (all ≡ flat_map messages_of received ++ messages) × (result ≡ end) × (after ≡ unread new behind)
whole_given lacks kinds others rest old here new received last behind messages all end result after x y r =
    let on = piece_read lacks others rest here new last behind messages end y in
    let pieces = pieces_read_on lacks kinds others old here (unread new behind) received last messages end x on in
    let same = reads_one kinds (unread old (flat_map piece_of received ++ last)) (unread new behind) after all (flat_map messages_of received ++ messages) result end r pieces in
    (same.messages_are, same.end_is, same.left_is)

-- the pieces of a session
pub session_in_pieces : (lacks : Type 0) (kinds others rest : List PasswordKind) (old here new : Waiting) (received : List Received) (last behind : List ℕ) (messages read : List ClientMessage) (end : Result (Option ClientMessage) ClientError)
    → old.bytes ≡ [] → old.opened ≡ false → ReadsPieces lacks kinds old received others here → ReadsPiece lacks others here last read end rest new behind → ClientRun kinds messages (flat_map piece_of received ++ last)
    → IsAllRead messages (flat_map messages_of received ++ read) end (unread new behind)
session_in_pieces lacks kinds others rest old here new received last behind messages read end none closed x y run =
    let on = piece_read lacks others rest here new last behind read end y in
    let pieces = pieces_read_on lacks kinds others old here (unread new behind) received last read end x on in
    let first : unread old (flat_map piece_of received ++ last) ≡ left (flat_map piece_of received ++ last) false = ap (λ l. left (l ++ (flat_map piece_of received ++ last)) old.opened) none ∙ ap (left (flat_map piece_of received ++ last)) closed in
    session_read kinds messages (flat_map messages_of received ++ read) (flat_map piece_of received ++ last) end (unread new behind) run
    (subst (λ (u : Unread). Reads kinds u (flat_map messages_of received ++ read) end (unread new behind)) first pieces)
