use Rattle.pgtrace_session.proofs.Common.{inl, on_err, view_of, kept_of}
use Rattle.pgtrace_session.proofs.Sessions.{last_breaks, last_broken, last_listed}
use Rattle.pgtrace_session.proofs.session.list_held.Goals as goal

pub returns-in_err-stopped-clause-cut : goal.returns-in_err-stopped-clause-cut
returns-in_err-stopped-clause-cut g c =
    on_err c.from_residual.result _ (inl c.in_err-stopped.ensures.cut)

pub returns-clause-done : goal.returns-clause-done
returns-clause-done g c =
    let held = c.list_pieces.new.held in
    last_listed c.list_last.result (view_of c.args.view) c.args.marking (record { input = g.R.Read.remaining c.args.input.now; output = g.W.Write.contents c.args.output.now })
    (record { input = g.R.Read.remaining c.list_pieces.new.input; output = g.W.Write.contents c.list_pieces.new.output }) (g.W.Write.contents c.list_last.new.output) held.begun c.in_ok-stopped.stopped (kept_of held.talk) held.bytes.items
    c.in_ok-stopped.ensures.listed c.in_ok-stopped.ensures.all c.list_last.ensures.status c.list_last.ensures.said c.list_last.ensures.all

pub returns-clause-cut : goal.returns-clause-cut
returns-clause-cut g c =
    let held = c.list_pieces.new.held in
    last_broken c.list_last.result (view_of c.args.view) c.args.marking (record { input = g.R.Read.remaining c.args.input.now; output = g.W.Write.contents c.args.output.now })
    (record { input = g.R.Read.remaining c.list_pieces.new.input; output = g.W.Write.contents c.list_pieces.new.output }) (g.W.Write.contents c.list_last.new.output) held.begun c.in_ok-stopped.stopped (kept_of held.talk) held.bytes.items
    c.in_ok-stopped.ensures.listed c.in_ok-stopped.ensures.all c.list_last.ensures.some

pub returns-clause-stops : goal.returns-clause-stops
returns-clause-stops g c = last_breaks c.list_last.result _ _ _ (view_of c.args.view) c.args.marking _ _ (returns-clause-cut g c) c.list_last.ensures.cause
