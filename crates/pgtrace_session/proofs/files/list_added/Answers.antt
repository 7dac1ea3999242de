use Rattle.pgtrace_session.proofs.Common.{inr, on_err, more_taken, Appends-trans, table, kept_nothing, ◌∙◌}
use Rattle.pgtrace_session.proofs.files.list_added.Goals as goal

pub returns-in_err-write_table-clause-stops : goal.returns-in_err-write_table-clause-stops
returns-in_err-write_table-clause-stops g c =
    let old = g.W.Write.contents c.args.output.now in
    let mid = g.W.Write.contents c.add_files.new.output in
    on_err c.from_residual-in_err-write_table.result _
    (inr (c.add_files.new.table.tallies, c.in_ok-end.end, c.in_ok-end.ensures.added, more_taken old mid (g.W.Write.contents c.write_table.new.output) _ _ (kept_nothing old mid c.in_ok-end.ensures.kept) c.in_err-write_table.ensures.front))

pub returns-clause-done : goal.returns-clause-done
returns-clause-done g c =
    let old = g.W.Write.contents c.args.output.now in
    let mid = g.W.Write.contents c.add_files.new.output in
    let written = Appends-trans old mid (g.W.Write.contents c.write_table.new.output) _ _ (kept_nothing old mid c.in_ok-end.ensures.kept) c.in_ok-write_table.ensures.written in
    record { tallies = c.add_files.new.table.tallies; end = c.in_ok-end.end; adds = c.in_ok-end.ensures.added; written = written; fine = c.with_status.ensures.status ∙ c.status_of.ensures; reported = c.with_status.ensures.complaint ∙ c.complaint_of.ensures }
