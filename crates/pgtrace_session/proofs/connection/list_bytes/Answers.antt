use Rattle.pgtrace_session.proofs.Common.{◌≤◌, List, ℕ, length, take, drop, arith, subst, string_bytes, view_of, ListsAllFrames, half_of, known_of}
use Rattle.pgtrace_session.proofs.ChunkLists.{counted, listed}
use Rattle.pgtrace_session.proofs.connection.list_bytes.Goals as goal

pub returns-then-half-clause-lines : goal.returns-then-half-clause-lines
returns-then-half-clause-lines g c before holds =
    counted (view_of c.args.view) (string_bytes c.args.texts.now.mark) c.args.sender (known_of c.args.known.now) (half_of c.args.half.now) c.saturating_add-half.result before c.args.bytes.now (string_bytes c.args.texts.now.lines)
    c.if-half.true c.saturating_add-half.ensures holds

pub returns-clause-lines : goal.returns-clause-lines
returns-clause-lines g c before holds =
    let half = c.args.half.now in
    let view = view_of c.args.view in
    let mark = string_bytes c.args.texts.now.mark in
    let old = string_bytes c.args.texts.now.lines in
    let new = string_bytes c.list_frames.new.texts.lines in
    let n = c.in_ok-listed.listed in
    let items = c.append.new.buf.items in
    let from = known_of c.args.known.now in
    let to = known_of c.list_frames.new.known in
    let all : ListsAllFrames view mark c.args.sender half.place from items (take n items) (drop n items) c.in_ok-listed.stopped to old new =
    subst (λ (l : List ℕ). ListsAllFrames view mark c.args.sender half.place from l (take n l) (drop n l) c.in_ok-listed.stopped to old new) c.as_slice.ensures c.in_ok-listed.ensures.all in
    let le : n ≤ length items = subst (λ (l : List ℕ). n ≤ length l) c.as_slice.ensures c.in_ok-listed.ensures.within in
    listed view mark c.args.sender from to (half_of half) n c.saturating_add-half-2.result c.len.result before c.args.bytes.now items c.advance.new.self.items old new c.in_ok-listed.stopped
    c.if-half.false c.in_ok-append.ensures.ok all le c.advance.ensures.items c.saturating_add-half-2.ensures c.len.ensures.value (omega (arith, c.len.type_inv)) holds
