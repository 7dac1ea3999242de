use Rattle.std.specs.IoError.{error_kind}
use Rattle.std.specs.Prelude.{◌≢◌}
use Rattle.std.specs.declared.io.ErrorKind.TheVariants.{OutOfMemory}
use Rattle.pgtrace_session.proofs.Common.{true, false, ◌++◌, take, arith, rules, refl, subst, inl, inr, Consumes, Keeps-refl, on_err, Streams, view_of, ListsPiece, Stays, kept_of, called_more}
use Rattle.pgtrace_session.proofs.Sessions.{first_held, follows_end, follows_piece, follows_same, follows_start, part_here, part_of_piece, read_all, read_rest, ready, was_listed}
use Rattle.pgtrace_session.proofs.session.list_pieces.Goals as goal
use Rattle.pgtrace_session.proofs.session.list_pieces.Goals.{in-Ok+in_ok-list_piece-in-Ok+else-branch, in-Err+in-Interrupted}

pub pieces-init : goal.pieces-init
pieces-init g c = (
  follows_start (view_of c.args.view) c.args.marking (record { input = g.R.Read.remaining c.args.input.now; output = g.W.Write.contents c.args.output.now }) c.args.held.now.begun _ c.args.held.now.bytes.items
      c.requires.first.begins (rw c.first_start-held.ensures (first_held c.args.marking (kept_of c.args.held.now.talk) c.requires.first.nothing)) c.requires.first.none,
  inl (Keeps-refl (g.W.Write.contents c.args.output.now)),
  inl refl,
)

pub read_some-requires : goal.read_some-requires
read_some-requires g c =
    c.requires.live c.pieces.input (ready g.R.Read.remaining g.W.Write.contents g.W.Output.Passed (view_of c.args.view) c.args.marking c.args.input.now c.pieces.input c.args.output.now c.pieces.output
    c.pieces.held.begun (kept_of c.pieces.held.talk) c.pieces.held.bytes.items c.pieces.invariant.0 c.pieces.invariant.1)

pub returns-in-Ok-eq0-clause-listed : goal.returns-in-Ok-eq0-clause-listed
returns-in-Ok-eq0-clause-listed g c =
    let now = g.R.Read.remaining c.pieces.input in
    let next = g.R.Read.remaining c.read_some.new.self in
    let held = c.pieces.held in
    follows_end (view_of c.args.view) c.args.marking (record { input = g.R.Read.remaining c.args.input.now; output = g.W.Write.contents c.args.output.now }) (record { input = now; output = g.W.Write.contents c.pieces.output })
    held.begun (kept_of held.talk) held.bytes.items next c.pieces.invariant.0 (subst (λ k. Consumes now next (take k c.read_some.new.piece)) c.in-Ok-eq0.field-0-test c.in-Ok-eq0.ensures.bytes.0)

pub returns-in-Ok-eq0-clause-all : goal.returns-in-Ok-eq0-clause-all
returns-in-Ok-eq0-clause-all g c =
    read_all c.pieces.held.begun c.pieces.held.bytes.items (g.R.Read.remaining c.read_some.new.self) (c.in-Ok-eq0.ensures.bytes.1 c.in-Ok-eq0.field-0-test (omega (arith, c.requires.some, c.pieces.auto.piece, c.read_some.auto.piece)))

pub returns-in_err-list_piece-in-Ok-clause-cut : goal.returns-in_err-list_piece-in-Ok-clause-cut
returns-in_err-list_piece-in-Ok-clause-cut g c =
    let f = c.pieces.invariant.0 in
    let held = c.pieces.held in
    on_err c.from_residual.result _ (part_of_piece (view_of c.args.view) c.args.marking (record { input = g.R.Read.remaining c.args.input.now; output = g.W.Write.contents c.args.output.now })
    (record { input = g.R.Read.remaining c.pieces.input; output = g.W.Write.contents c.pieces.output }) held.begun (kept_of held.talk) held.bytes.items (take c.in-Ok.n c.read_some.new.piece) (g.R.Read.remaining c.read_some.new.self) (g.W.Write.contents c.list_piece.new.output)
    f c.in-Ok.ensures.bytes.0 (c.in_err-list_piece-in-Ok.ensures.some c.args.marking f.bytes f.lines f.tracks))

pub returns-then-branch-clause-listed : goal.returns-then-branch-clause-listed
returns-then-branch-clause-listed g c =
    let held = c.pieces.held in
    let new = c.list_piece.new.held in
    let f = c.pieces.invariant.0 in
    let piece = take c.in-Ok.n c.read_some.new.piece in
    let out = g.W.Write.contents c.pieces.output in
    follows_piece (view_of c.args.view) c.args.marking (record { input = g.R.Read.remaining c.args.input.now; output = g.W.Write.contents c.args.output.now }) (record { input = g.R.Read.remaining c.pieces.input; output = out })
    held.begun new.begun true (kept_of held.talk) (kept_of new.talk) held.bytes.items new.bytes.items piece (g.R.Read.remaining c.read_some.new.self) (g.W.Write.contents c.list_piece.new.output) f c.in-Ok.ensures.bytes.0
    (subst (λ s. ListsPiece (view_of c.args.view) c.args.marking (f.bytes ++ piece) f.lines new.begun s (kept_of new.talk) new.bytes.items out (g.W.Write.contents c.list_piece.new.output)) c.if-branch.true (c.in_ok-list_piece-in-Ok.ensures.all c.args.marking f.bytes f.lines f.tracks))

pub returns-then-branch-clause-all : goal.returns-then-branch-clause-all
returns-then-branch-clause-all g c =
    let new = c.list_piece.new.held in
    let f = c.pieces.invariant.0 in
    let one = c.in_ok-list_piece-in-Ok.ensures.all c.args.marking f.bytes f.lines f.tracks in
    read_rest new.begun new.bytes.items (g.R.Read.remaining c.read_some.new.self) (subst (λ s. Stays new.begun s new.bytes.items) c.if-branch.true one.stays)

pub returns-in-OutOfMemory-clause-cut : goal.returns-in-OutOfMemory-clause-cut
returns-in-OutOfMemory-clause-cut g c =
    let next = g.R.Read.remaining c.read_some.new.self in
    let out = g.W.Write.contents c.pieces.output in
    let held = c.pieces.held in
    let before : Streams = record { input = g.R.Read.remaining c.args.input.now; output = g.W.Write.contents c.args.output.now } in
    part_here (view_of c.args.view) c.args.marking before (record { input = next; output = out }) held.begun (kept_of held.talk) held.bytes.items
    (follows_same (view_of c.args.view) c.args.marking before (record { input = g.R.Read.remaining c.pieces.input; output = out }) held.begun (kept_of held.talk) held.bytes.items next c.pieces.invariant.0 c.in-Err.ensures.bytes)

pub returns-in_default : goal.returns-in_default
returns-in_default g c =
    let next = g.R.Read.remaining c.read_some.new.self in
    let out = g.W.Write.contents c.pieces.output in
    let held = c.pieces.held in
    let before : Streams = record { input = g.R.Read.remaining c.args.input.now; output = g.W.Write.contents c.args.output.now } in
    let f = follows_same (view_of c.args.view) c.args.marking before (record { input = g.R.Read.remaining c.pieces.input; output = out }) held.begun (kept_of held.talk) held.bytes.items next c.pieces.invariant.0 c.in-Err.ensures.bytes in
    let fails : g.R.Input.Fails (error_kind c.in-Err.e) = search rules in
    let other : error_kind c.in-Err.e ≢ OutOfMemory = search rules in
    record {
      listed = tt;
      all = tt;
      live = λ e. was_listed (view_of c.args.view) c.args.marking before (record { input = next; output = out }) held.begun (kept_of held.talk) held.bytes.items f;
      passed = λ e. c.pieces.invariant.1;
      cut = part_here (view_of c.args.view) c.args.marking before (record { input = next; output = out }) held.begun (kept_of held.talk) held.bytes.items f;
      cause = inl (error_kind c.in-Err.e, other, fails);
    }

pub pieces-preserved : goal.pieces-preserved
pieces-preserved g c =
    let now = g.R.Read.remaining c.pieces.input in
    let next = g.R.Read.remaining c.read_some.new.self in
    let out = g.W.Write.contents c.pieces.output in
    let held = c.pieces.held in
    let f = c.pieces.invariant.0 in
    let before : Streams = record { input = g.R.Read.remaining c.args.input.now; output = g.W.Write.contents c.args.output.now } in
    let counted = called_more g.R.Input.Called c.pieces.input c.read_some.new.self c.pieces.counter c.read_some.ensures.once c.read_some.ensures.again c.pieces.invariant.2 in
    elim c.match-read_some.branch [
      | in-Ok+in_ok-list_piece-in-Ok+else-branch w ↦ rw (w.output-is, w.held-is) (
        let new = w.list_piece.new.held in
            let piece = take w.in-Ok.n c.read_some.new.piece in
            follows_piece (view_of c.args.view) c.args.marking before (record { input = now; output = out }) held.begun new.begun false (kept_of held.talk) (kept_of new.talk) held.bytes.items new.bytes.items piece next (g.W.Write.contents w.list_piece.new.output) f w.in-Ok.ensures.bytes.0
            (subst (λ s. ListsPiece (view_of c.args.view) c.args.marking (f.bytes ++ piece) f.lines new.begun s (kept_of new.talk) new.bytes.items out (g.W.Write.contents w.list_piece.new.output)) w.if-branch.false (w.in_ok-list_piece-in-Ok.ensures.all c.args.marking f.bytes f.lines f.tracks)),
        inr w.in_ok-list_piece-in-Ok.ensures.passed,
        counted,
      )
      | in-Err+in-Interrupted w ↦ rw (w.output-is, w.held-is) (
        follows_same (view_of c.args.view) c.args.marking before (record { input = now; output = out }) held.begun (kept_of held.talk) held.bytes.items next f w.in-Err.ensures.bytes,
        c.pieces.invariant.1,
        counted,
      )
    ]

pub returns-clause-cut : goal.returns-clause-cut
returns-clause-cut g c =
    part_here (view_of c.args.view) c.args.marking (record { input = g.R.Read.remaining c.args.input.now; output = g.W.Write.contents c.args.output.now }) (record { input = g.R.Read.remaining c.pieces.input; output = g.W.Write.contents c.pieces.output })
    c.pieces.held.begun (kept_of c.pieces.held.talk) c.pieces.held.bytes.items c.pieces.invariant.0
