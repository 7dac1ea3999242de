use Rattle.pgtrace_lines.proofs.Common.{◌≤◌, List, ℕ, [], length, take, drop, arith, subst, sym, string_bytes, Keeps-refl, ListsAll, side_of, view_of}
use Rattle.pgtrace_lines.proofs.Traces.{err_counted, err_then, front_of_piece, ok_then, on_ok, piece_counted, piece_listed}
use Rattle.pgtrace_lines.proofs.stream.list_piece.Goals as goal

pub returns-then-held-clause-all : goal.returns-then-held-clause-all
returns-then-held-clause-all g c =
    let held = c.args.held.now in
    on_ok c.pass_on.result (piece_counted (view_of c.args.view) (side_of held.side) held.place held.left c.saturating_add-held.result held.bytes.items c.args.piece.now held.stopped
    (g.W.Write.contents c.args.output.now) (g.W.Write.contents c.pass_on.new.output) c.if-held.true c.saturating_add-held.ensures c.pass_on.ensures.kept)

pub returns-then-held-clause-some : goal.returns-then-held-clause-some
returns-then-held-clause-some g c =
    let held = c.args.held.now in
    err_counted c.pass_on.result (view_of c.args.view) c.args.piece.now (record { side = side_of held.side; bytes = held.bytes.items; place = held.place; stopped = held.stopped; left = held.left })
    (g.W.Write.contents c.args.output.now) (g.W.Write.contents c.pass_on.new.output) c.pass_on.ensures.kept

pub returns-in_err-append-clause-some : goal.returns-in_err-append-clause-some
returns-in_err-append-clause-some g c =
    let held = c.args.held.now in
    let old = g.W.Write.contents c.args.output.now in
    err_counted c.from_residual.result (view_of c.args.view) c.args.piece.now (record { side = side_of held.side; bytes = held.bytes.items; place = held.place; stopped = held.stopped; left = held.left }) old old (Keeps-refl old)

pub returns-in_err-listed-clause-some : goal.returns-in_err-listed-clause-some
returns-in_err-listed-clause-some g c =
    let held = c.args.held.now in
    let old = g.W.Write.contents c.args.output.now in
    err_counted c.from_residual-in_err-listed.result (view_of c.args.view) c.args.piece.now (record { side = side_of held.side; bytes = held.bytes.items; place = held.place; stopped = held.stopped; left = held.left }) old old (Keeps-refl old)

pub returns-clause-all : goal.returns-clause-all
returns-clause-all g c =
    let held = c.args.held.now in
    let n = c.in_ok-listed.listed in
    let to = side_of c.in_ok-listed.side in
    let items = c.append.new.buf.items in
    let text = string_bytes c.list_frames.new.lines in
    let all : ListsAll (view_of c.args.view) held.place (side_of held.side) items (take n items) (drop n items) c.in_ok-listed.stopped to [] text =
    subst (λ (l : List ℕ). ListsAll (view_of c.args.view) held.place (side_of held.side) items (take n items) (drop n items) c.in_ok-listed.stopped to l text) c.clear.ensures.bytes
    (subst (λ (l : List ℕ). ListsAll (view_of c.args.view) held.place (side_of held.side) l (take n l) (drop n l) c.in_ok-listed.stopped to (string_bytes c.clear.new.self) text) c.as_slice.ensures c.in_ok-listed.ensures.all) in
    let le : n ≤ length items = subst (λ (l : List ℕ). n ≤ length l) c.as_slice.ensures c.in_ok-listed.ensures.within in
    ok_then c.put_lines.result (piece_listed (view_of c.args.view) (side_of held.side) to held.place held.left n c.saturating_add-held-2.result c.len.result held.bytes.items c.args.piece.now items c.advance.new.self.items text held.stopped c.in_ok-listed.stopped
    (g.W.Write.contents c.args.output.now) (g.W.Write.contents c.put_lines.new.output)
    c.if-held.false c.in_ok-append.ensures.ok all le c.advance.ensures.items c.saturating_add-held-2.ensures c.len.ensures.value (omega (arith, c.len.type_inv))) (rw (sym c.as_str.ensures.value) c.put_lines.ensures.written)

pub returns-clause-some : goal.returns-clause-some
returns-clause-some g c =
    let held = c.args.held.now in
    let n = c.in_ok-listed.listed in
    let to = side_of c.in_ok-listed.side in
    let items = c.append.new.buf.items in
    let text = string_bytes c.list_frames.new.lines in
    let all : ListsAll (view_of c.args.view) held.place (side_of held.side) items (take n items) (drop n items) c.in_ok-listed.stopped to [] text =
    subst (λ (l : List ℕ). ListsAll (view_of c.args.view) held.place (side_of held.side) items (take n items) (drop n items) c.in_ok-listed.stopped to l text) c.clear.ensures.bytes
    (subst (λ (l : List ℕ). ListsAll (view_of c.args.view) held.place (side_of held.side) l (take n l) (drop n l) c.in_ok-listed.stopped to (string_bytes c.clear.new.self) text) c.as_slice.ensures c.in_ok-listed.ensures.all) in
    err_then c.put_lines.result (front_of_piece (view_of c.args.view) (side_of held.side) to held.place held.left n held.bytes.items c.args.piece.now items text held.stopped c.in_ok-listed.stopped
    (g.W.Write.contents c.args.output.now) (g.W.Write.contents c.put_lines.new.output)
    c.if-held.false c.in_ok-append.ensures.ok all) (rw (sym c.as_str.ensures.value) c.put_lines.ensures.front)
