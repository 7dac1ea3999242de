use Rattle.pgtrace_session.proofs.PrintedMarks.{last_printable, mark_printable}
use Rattle.pgtrace_session.proofs.PrintedObjects.{marked_printable, typed_printable}
use Rattle.pgtrace_session.proofs.laws.marked_lines_are_printable.Goals as goal

pub returns : goal.returns
returns c = record { lines = marked_printable; typed = typed_printable; marks = mark_printable; last = last_printable }
