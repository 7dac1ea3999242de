use Rattle.std.specs.IoError.{error_kind}
use Rattle.std.specs.Prelude.{◌≢◌}
use Rattle.std.specs.declared.io.ErrorKind.TheVariants.{OutOfMemory}
use Rattle.pgtrace_lines.proofs.Common.{take, arith, rules, refl, subst, inl, inr, Consumes, Keeps-refl, side_of, view_of}
use Rattle.pgtrace_lines.proofs.Traces.{tracks_start, tracks_same, tracks_piece, end_written, end_cut, piece_cut, cut_here, was_listed, called_more, ready}
use Rattle.pgtrace_lines.proofs.stream.list_stream.Goals as goal
use Rattle.pgtrace_lines.proofs.stream.list_stream.Goals.{in-Ok+in_ok-list_piece-in-Ok, in-Err+in-Interrupted}

pub pieces-init : goal.pieces-init
pieces-init g c = (
  tracks_start (view_of c.args.view) (side_of c.args.side) (record { input = g.R.Read.remaining c.args.input.now; output = g.W.Write.contents c.args.output.now }) c.new.result.items c.new.ensures.items,
  inl (Keeps-refl (g.W.Write.contents c.args.output.now)),
  inl refl,
)

pub read_some-requires : goal.read_some-requires
read_some-requires g c =
    c.requires.live c.pieces.input (ready g.R.Read.remaining g.W.Write.contents g.W.Output.Passed (view_of c.args.view) (side_of c.args.side) c.args.input.now c.pieces.input c.args.output.now c.pieces.output
    (record { side = side_of c.pieces.held.side; bytes = c.pieces.held.bytes.items; place = c.pieces.held.place; stopped = c.pieces.held.stopped; left = c.pieces.held.left }) c.pieces.invariant.0 c.pieces.invariant.1)

pub returns-in-Ok-eq0-clause-listed : goal.returns-in-Ok-eq0-clause-listed
returns-in-Ok-eq0-clause-listed g c =
    let now = g.R.Read.remaining c.pieces.input in
    let next = g.R.Read.remaining c.read_some.new.self in
    let none = subst (λ k. Consumes now next (take k c.read_some.new.piece)) c.in-Ok-eq0.field-0-test c.in-Ok-eq0.ensures.bytes.0 in
    let end = c.in-Ok-eq0.ensures.bytes.1 c.in-Ok-eq0.field-0-test (omega (arith, c.requires.some, c.pieces.auto.piece, c.read_some.auto.piece)) in
    end_written c.list_rest.result (λ text. text.now) c.hint_of-said.result.now (view_of c.args.view) (side_of c.args.side) (record { input = g.R.Read.remaining c.args.input.now; output = g.W.Write.contents c.args.output.now }) now next (g.W.Write.contents c.pieces.output) (g.W.Write.contents c.list_rest.new.output) (record { side = side_of c.pieces.held.side; bytes = c.pieces.held.bytes.items; place = c.pieces.held.place; stopped = c.pieces.held.stopped; left = c.pieces.held.left }) c.pieces.invariant.0 none end c.list_rest.ensures.all c.list_rest.ensures.said c.hint_of-said.ensures

pub returns-in-Ok-eq0-clause-cut : goal.returns-in-Ok-eq0-clause-cut
returns-in-Ok-eq0-clause-cut g c =
    let now = g.R.Read.remaining c.pieces.input in
    let next = g.R.Read.remaining c.read_some.new.self in
    let none = subst (λ k. Consumes now next (take k c.read_some.new.piece)) c.in-Ok-eq0.field-0-test c.in-Ok-eq0.ensures.bytes.0 in
    let end = c.in-Ok-eq0.ensures.bytes.1 c.in-Ok-eq0.field-0-test (omega (arith, c.requires.some, c.pieces.auto.piece, c.read_some.auto.piece)) in
    end_cut c.list_rest.result (view_of c.args.view) (side_of c.args.side) (record { input = g.R.Read.remaining c.args.input.now; output = g.W.Write.contents c.args.output.now }) now next (g.W.Write.contents c.pieces.output) (g.W.Write.contents c.list_rest.new.output) (record { side = side_of c.pieces.held.side; bytes = c.pieces.held.bytes.items; place = c.pieces.held.place; stopped = c.pieces.held.stopped; left = c.pieces.held.left }) c.pieces.invariant.0 none end c.list_rest.ensures.some

pub returns-in_err-list_piece-in-Ok-clause-cut : goal.returns-in_err-list_piece-in-Ok-clause-cut
returns-in_err-list_piece-in-Ok-clause-cut g c =
    piece_cut c.from_residual.result (view_of c.args.view) (side_of c.args.side) (record { input = g.R.Read.remaining c.args.input.now; output = g.W.Write.contents c.args.output.now }) (g.R.Read.remaining c.pieces.input) (g.R.Read.remaining c.read_some.new.self) (g.W.Write.contents c.pieces.output) (g.W.Write.contents c.list_piece.new.output)
    (record { side = side_of c.pieces.held.side; bytes = c.pieces.held.bytes.items; place = c.pieces.held.place; stopped = c.pieces.held.stopped; left = c.pieces.held.left }) (take c.in-Ok.n c.read_some.new.piece) c.pieces.invariant.0 c.in-Ok.ensures.bytes.0 c.in_err-list_piece-in-Ok.ensures.some

pub returns-in-OutOfMemory-clause-cut : goal.returns-in-OutOfMemory-clause-cut
returns-in-OutOfMemory-clause-cut g c =
    let next = g.R.Read.remaining c.read_some.new.self in
    let out = g.W.Write.contents c.pieces.output in
    cut_here (view_of c.args.view) (side_of c.args.side) (record { input = g.R.Read.remaining c.args.input.now; output = g.W.Write.contents c.args.output.now }) (record { input = next; output = out }) (record { side = side_of c.pieces.held.side; bytes = c.pieces.held.bytes.items; place = c.pieces.held.place; stopped = c.pieces.held.stopped; left = c.pieces.held.left })
    (tracks_same (view_of c.args.view) (side_of c.args.side) (record { input = g.R.Read.remaining c.args.input.now; output = g.W.Write.contents c.args.output.now }) (record { input = g.R.Read.remaining c.pieces.input; output = out }) (record { side = side_of c.pieces.held.side; bytes = c.pieces.held.bytes.items; place = c.pieces.held.place; stopped = c.pieces.held.stopped; left = c.pieces.held.left }) next c.pieces.invariant.0 c.in-Err.ensures.bytes)

pub returns-in_default : goal.returns-in_default
returns-in_default g c =
    let next = g.R.Read.remaining c.read_some.new.self in
    let out = g.W.Write.contents c.pieces.output in
    let t = tracks_same (view_of c.args.view) (side_of c.args.side) (record { input = g.R.Read.remaining c.args.input.now; output = g.W.Write.contents c.args.output.now }) (record { input = g.R.Read.remaining c.pieces.input; output = out }) (record { side = side_of c.pieces.held.side; bytes = c.pieces.held.bytes.items; place = c.pieces.held.place; stopped = c.pieces.held.stopped; left = c.pieces.held.left }) next c.pieces.invariant.0 c.in-Err.ensures.bytes in
    let fails : g.R.Input.Fails (error_kind c.in-Err.e) = search rules in
    let other : error_kind c.in-Err.e ≢ OutOfMemory = search rules in
    record {
      read = tt;
      listed = tt;
      live = λ e. was_listed (view_of c.args.view) (side_of c.args.side) (record { input = g.R.Read.remaining c.args.input.now; output = g.W.Write.contents c.args.output.now }) (record { input = next; output = out }) (record { side = side_of c.pieces.held.side; bytes = c.pieces.held.bytes.items; place = c.pieces.held.place; stopped = c.pieces.held.stopped; left = c.pieces.held.left }) t;
      passed = λ e. c.pieces.invariant.1;
      done = tt;
      cut = cut_here (view_of c.args.view) (side_of c.args.side) (record { input = g.R.Read.remaining c.args.input.now; output = g.W.Write.contents c.args.output.now }) (record { input = next; output = out }) (record { side = side_of c.pieces.held.side; bytes = c.pieces.held.bytes.items; place = c.pieces.held.place; stopped = c.pieces.held.stopped; left = c.pieces.held.left }) t;
      cause = inl (error_kind c.in-Err.e, other, fails);
    }

pub pieces-preserved : goal.pieces-preserved
pieces-preserved g c =
    let now = g.R.Read.remaining c.pieces.input in
    let next = g.R.Read.remaining c.read_some.new.self in
    let out = g.W.Write.contents c.pieces.output in
    let counted = called_more g.R.Input.Called c.pieces.input c.read_some.new.self c.pieces.counter c.read_some.ensures.once c.read_some.ensures.again c.pieces.invariant.2 in
    elim c.match-read_some.branch [
      | in-Ok+in_ok-list_piece-in-Ok w ↦ rw (w.output-is, w.held-is) (
        tracks_piece (view_of c.args.view) (side_of c.args.side) (record { input = g.R.Read.remaining c.args.input.now; output = g.W.Write.contents c.args.output.now }) (record { input = now; output = out }) (record { side = side_of c.pieces.held.side; bytes = c.pieces.held.bytes.items; place = c.pieces.held.place; stopped = c.pieces.held.stopped; left = c.pieces.held.left })
            (record { side = side_of w.list_piece.new.held.side; bytes = w.list_piece.new.held.bytes.items; place = w.list_piece.new.held.place; stopped = w.list_piece.new.held.stopped; left = w.list_piece.new.held.left })
            next (g.W.Write.contents w.list_piece.new.output) (take w.in-Ok.n c.read_some.new.piece) c.pieces.invariant.0 w.in-Ok.ensures.bytes.0
            (w.in_ok-list_piece-in-Ok.ensures.all c.pieces.invariant.0.rest c.pieces.invariant.0.holds),
        inr w.in_ok-list_piece-in-Ok.ensures.passed,
        counted,
      )
      | in-Err+in-Interrupted w ↦ rw (w.output-is, w.held-is) (
        tracks_same (view_of c.args.view) (side_of c.args.side) (record { input = g.R.Read.remaining c.args.input.now; output = g.W.Write.contents c.args.output.now }) (record { input = now; output = out }) (record { side = side_of c.pieces.held.side; bytes = c.pieces.held.bytes.items; place = c.pieces.held.place; stopped = c.pieces.held.stopped; left = c.pieces.held.left }) next c.pieces.invariant.0 w.in-Err.ensures.bytes,
        c.pieces.invariant.1,
        counted,
      )
    ]

pub returns-clause-cut : goal.returns-clause-cut
returns-clause-cut g c =
    cut_here (view_of c.args.view) (side_of c.args.side) (record { input = g.R.Read.remaining c.args.input.now; output = g.W.Write.contents c.args.output.now }) (record { input = g.R.Read.remaining c.pieces.input; output = g.W.Write.contents c.pieces.output }) (record { side = side_of c.pieces.held.side; bytes = c.pieces.held.bytes.items; place = c.pieces.held.place; stopped = c.pieces.held.stopped; left = c.pieces.held.left }) c.pieces.invariant.0
