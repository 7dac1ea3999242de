use Rattle.pgtrace_session.proofs.Common.{view_of}
use Rattle.pgtrace_session.proofs.Wholes.{caused_so, file_cut, file_listed}
use Rattle.pgtrace_session.proofs.files.list_file.Goals as goal

pub returns-clause-done : goal.returns-clause-done
returns-clause-done g c =
    file_listed g.R.Recordings.Gives (view_of c.args.view) c.args.marking c.args.name.now _ _ c.in_ok-file.ensures.gives c.list_session.result (g.W.Write.contents c.args.output.now) (g.W.Write.contents c.list_session.new.output) c.list_session.ensures.done

pub returns-clause-stops : goal.returns-clause-stops
returns-clause-stops g c =
    file_cut g.R.Recordings.Gives (view_of c.args.view) c.args.marking c.args.name.now _ _ c.in_ok-file.ensures.gives c.list_session.result (g.W.Write.contents c.args.output.now) (g.W.Write.contents c.list_session.new.output) c.list_session.ensures.cut

pub returns-clause-cause : goal.returns-clause-cause
returns-clause-cause g c = caused_so c.list_session.result _ _ _ _ c.in_ok-file.ensures.stops c.list_session.ensures.cause
