use Rattle.pgtrace_session.proofs.Common.{view_of}
use Rattle.pgtrace_session.proofs.Wholes.{caused_so, file_added}
use Rattle.pgtrace_session.proofs.files.add_file.Goals as goal

pub returns-clause-added : goal.returns-clause-added
returns-clause-added g c =
    file_added g.R.Recordings.Gives (view_of c.args.view) c.args.marking c.args.name.now _ _ c.in_ok-file.ensures.gives c.sum_session.result c.args.table.now.tallies c.sum_session.new.table.tallies c.sum_session.ensures.added

pub returns-clause-cause : goal.returns-clause-cause
returns-clause-cause g c = caused_so c.sum_session.result _ _ _ _ c.in_ok-file.ensures.stops c.sum_session.ensures.cause
