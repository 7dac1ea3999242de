use Rattle.pgwire_engines.proofs.Common.{ap, arith, length, take, subst, sym, Consumes-nil, string_bytes, Consumes, Reading}
use Rattle.pgwire_engines.proofs.Lists.{lists_nothing, lists_more, lists_same, lists_all}
use Rattle.pgwire_engines.proofs.backend.lines_of.Goals as goal
use Rattle.pgwire_engines.proofs.backend.lines_of.Goals.{in-Ok+in_ok-list_piece-in-Ok, in-Err+in-Interrupted}

pub loop-init : goal.loop-init
loop-init g c = lists_nothing (g.R.Read.remaining c.args.input.now) c.new-parser.result (string_bytes c.new-text.result) c.new-parser.ensures.read (ap (λ (r : Reading). r.failed) c.new-parser.ensures.empty) (ap (λ (r : Reading). r.results) c.new-parser.ensures.empty) c.new-text.ensures.bytes

pub returns-in-Ok-eq0-clause-read : goal.returns-in-Ok-eq0-clause-read
returns-in-Ok-eq0-clause-read g c = c.in-Ok-eq0.ensures.bytes.1 c.in-Ok-eq0.field-0-test (omega (arith, c.requires, c.loop.auto.piece, c.read_some.auto.piece))

pub returns-in-Ok-eq0-clause-lines : goal.returns-in-Ok-eq0-clause-lines
returns-in-Ok-eq0-clause-lines g c =
    let now = g.R.Read.remaining c.loop.input in
    let next = g.R.Read.remaining c.read_some.new.self in
    let none = subst (λ k. Consumes now next (take k c.read_some.new.piece)) c.in-Ok-eq0.field-0-test c.in-Ok-eq0.ensures.bytes.0 in
    let end = c.in-Ok-eq0.ensures.bytes.1 c.in-Ok-eq0.field-0-test (omega (arith, c.requires, c.loop.auto.piece, c.read_some.auto.piece)) in
    lists_all (g.R.Read.remaining c.args.input.now) now next c.loop.parser (string_bytes c.loop.text) (string_bytes c.list_rest.new.text) c.stopped.result (length c.rest.result.now) c.loop.invariant none end c.stopped.ensures (ap length c.rest.ensures) c.in_ok-list_rest-in-Ok-eq0.ensures.line

pub loop-preserved : goal.loop-preserved
loop-preserved g c =
    let old = g.R.Read.remaining c.args.input.now in
    let now = g.R.Read.remaining c.loop.input in
    let next = g.R.Read.remaining c.read_some.new.self in
    let lines = string_bytes c.loop.text in
    elim c.match-read_some.branch [
      | in-Ok+in_ok-list_piece-in-Ok w ↦ rw (w.parser-is, w.text-is)
          (lists_more old now next c.loop.parser w.list_piece.new.parser (take w.in-Ok.n c.read_some.new.piece) lines (string_bytes w.list_piece.new.text) c.loop.invariant w.in-Ok.ensures.bytes.0 w.in_ok-list_piece-in-Ok.ensures.lines)
      | in-Err+in-Interrupted w ↦ rw (w.parser-is, w.text-is) (lists_same old now next c.loop.parser lines c.loop.invariant w.in-Err.ensures.bytes)
    ]

-- What is left after so many pieces is read at once, and nothing is left then.
pub returns-clause-lines : goal.returns-clause-lines
returns-clause-lines g c =
    let old = g.R.Read.remaining c.args.input.now in
    let now = g.R.Read.remaining c.loop.input in
    let next = g.R.Read.remaining c.read_rest.new.input in
    let parser = c.list_piece-2.new.parser in
    let lines = string_bytes c.list_piece-2.new.text in
    let received = subst (λ l. Consumes now next l) (sym c.as_slice.ensures.value) c.in_ok-last.ensures.consumes in
    let so_far = lists_more old now next c.loop.parser parser c.as_slice.result.now (string_bytes c.loop.text) lines c.loop.invariant received c.in_ok-list_piece.ensures.lines in
    lists_all old next next parser lines (string_bytes c.list_rest-2.new.text) c.stopped-2.result (length c.rest-2.result.now) so_far (Consumes-nil next) c.in_ok-last.ensures.end c.stopped-2.ensures (ap length c.rest-2.ensures) c.in_ok-list_rest.ensures.line
