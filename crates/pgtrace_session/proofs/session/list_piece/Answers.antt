use Rattle.pgtrace_session.proofs.Common.{List, ℕ, subst, string_bytes, Appends, on_err, AppendsFront, view_of, kept_of}
use Rattle.pgtrace_session.proofs.Sessions.{all_there, piece_front, piece_listed, piece_lost}
use Rattle.pgtrace_session.proofs.session.list_piece.Goals as goal

pub returns-in_err-append-clause-some : goal.returns-in_err-append-clause-some
returns-in_err-append-clause-some g c =
    let held = c.args.held.now in
    on_err c.from_residual.result _ (λ marking bytes lines t. piece_lost (view_of c.args.view) marking bytes lines c.args.piece.now held.begun (kept_of held.talk) held.bytes.items (g.W.Write.contents c.args.output.now) t)

pub returns-in_err-begun-clause-some : goal.returns-in_err-begun-clause-some
returns-in_err-begun-clause-some g c =
    let held = c.args.held.now in
    on_err c.from_residual-in_err-begun.result _ (λ marking bytes lines t. piece_lost (view_of c.args.view) marking bytes lines c.args.piece.now held.begun (kept_of held.talk) held.bytes.items (g.W.Write.contents c.args.output.now) t)

pub returns-in_err-put_lines-clause-some : goal.returns-in_err-put_lines-clause-some
returns-in_err-put_lines-clause-some g c =
    let held = c.args.held.now in
    let view = view_of c.args.view in
    let items = c.append.new.buf.items in
    let text = string_bytes c.list_chunks.new.texts.lines in
    let all = all_there view held.begun c.in_ok-begun.begun c.in_ok-begun.stopped (kept_of held.talk) (kept_of c.list_chunks.new.talk) c.as_slice.result.now items c.advance.new.self.items (string_bytes c.clear.new.self) text c.in_ok-begun.listed
    c.as_slice.ensures c.clear.ensures.bytes c.advance.ensures.items c.in_ok-begun.ensures.all in
    let taken : AppendsFront (g.W.Write.contents c.args.output.now) (g.W.Write.contents c.put_lines.new.output) text = subst (λ (l : List ℕ). AppendsFront (g.W.Write.contents c.args.output.now) (g.W.Write.contents c.put_lines.new.output) l) c.as_str.ensures.value c.in_err-put_lines.ensures.front in
    on_err c.from_residual-in_err-put_lines.result _ (λ marking bytes lines t.
    piece_front view marking bytes lines c.args.piece.now held.begun c.in_ok-begun.begun c.in_ok-begun.stopped (kept_of held.talk) (kept_of c.list_chunks.new.talk) held.bytes.items items c.advance.new.self.items text
    (g.W.Write.contents c.args.output.now) (g.W.Write.contents c.put_lines.new.output) t c.in_ok-append.ensures.ok (all marking) taken)

pub returns-clause-all : goal.returns-clause-all
returns-clause-all g c marking bytes lines t =
    let held = c.args.held.now in
    let view = view_of c.args.view in
    let items = c.append.new.buf.items in
    let text = string_bytes c.list_chunks.new.texts.lines in
    let all = all_there view held.begun c.in_ok-begun.begun c.in_ok-begun.stopped (kept_of held.talk) (kept_of c.list_chunks.new.talk) c.as_slice.result.now items c.advance.new.self.items (string_bytes c.clear.new.self) text c.in_ok-begun.listed
    c.as_slice.ensures c.clear.ensures.bytes c.advance.ensures.items c.in_ok-begun.ensures.all in
    let wrote : Appends (g.W.Write.contents c.args.output.now) (g.W.Write.contents c.put_lines.new.output) text = subst (λ (l : List ℕ). Appends (g.W.Write.contents c.args.output.now) (g.W.Write.contents c.put_lines.new.output) l) c.as_str.ensures.value c.in_ok-put_lines.ensures.written in
    piece_listed view marking bytes lines c.args.piece.now held.begun c.in_ok-begun.begun c.in_ok-begun.stopped (kept_of held.talk) (kept_of c.list_chunks.new.talk) held.bytes.items items c.advance.new.self.items text
    (g.W.Write.contents c.args.output.now) (g.W.Write.contents c.put_lines.new.output) t c.in_ok-append.ensures.ok (all marking) wrote
