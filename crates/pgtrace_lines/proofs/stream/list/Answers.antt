use Rattle.pgp_base.proofs.Parts.{on_err}
use Rattle.pgtrace_lines.proofs.Common.{side_of, view_of}
use Rattle.pgtrace_lines.proofs.Traces.{cut_nothing}
use Rattle.pgtrace_lines.proofs.stream.list.Goals as goal

pub returns-in_err-piece-clause-cut : goal.returns-in_err-piece-clause-cut
returns-in_err-piece-clause-cut g c =
    on_err c.from_residual.result _ (cut_nothing (view_of c.args.view) (side_of c.args.side) (record { input = g.R.Read.remaining c.args.input.now; output = g.W.Write.contents c.args.output.now }))
