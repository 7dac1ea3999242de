use Rattle.pgtrace_session.proofs.Common.{◌≡◌, IfErr, on_err, rules, view_of}
use Rattle.pgtrace_session.specs.Common.{Memory}
use Rattle.pgtrace_session.proofs.Sessions.{cut_nothing, memory_breaks}
use Rattle.pgtrace_session.proofs.session.list_session.Goals as goal

pub returns-in_err-piece-clause-cut : goal.returns-in_err-piece-clause-cut
returns-in_err-piece-clause-cut g c = on_err c.from_residual.result _ (cut_nothing (view_of c.args.view) c.args.marking (record { input = g.R.Read.remaining c.args.input.now; output = g.W.Write.contents c.args.output.now }))

pub returns-in_err-piece-clause-stops : goal.returns-in_err-piece-clause-stops
returns-in_err-piece-clause-stops g c =
    let lacks : IfErr c.from_residual.result (λ fault. fault ≡ Memory) = search rules in
    memory_breaks c.from_residual.result _ (view_of c.args.view) c.args.marking _ _ lacks (cut_nothing (view_of c.args.view) c.args.marking (record { input = g.R.Read.remaining c.args.input.now; output = g.W.Write.contents c.args.output.now }))
