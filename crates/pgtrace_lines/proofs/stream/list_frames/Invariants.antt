-- The frames so far have their lines.
use Rattle.pgtrace_lines.proofs.Common.{length, string_bytes, Listed, side_of, view_of}
use Rattle.pgtrace_lines.proofs.Rows.{RowsTo}
use Rattle.pgtrace_lines.proofs.stream.list_frames.Given as goal

abbrev pub invariant-frames : goal.invariant-frames
invariant-frames g l = RowsTo (Listed (view_of l.view)) l.place (side_of l.side) l.bytes l.rest (side_of l.here) (string_bytes l.fn.lines) (string_bytes l.lines)

abbrev pub decreases-frames : goal.decreases-frames
decreases-frames g l = length l.rest
