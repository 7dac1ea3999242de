-- The frames so far have their lines, and the mark is the same.
use Rattle.pgtrace_session.proofs.Common.{◌≡◌, length, string_bytes, view_of, ListsFrame, known_of, RowsTo}
use Rattle.pgtrace_session.proofs.frames.list_frames.Given as goal

abbrev pub invariant-frames : goal.invariant-frames
invariant-frames g l = RowsTo (ListsFrame (view_of l.view) (string_bytes l.fn.texts.mark) l.sender) l.place (known_of l.fn.known) l.bytes l.rest (known_of l.known) (string_bytes l.fn.texts.lines) (string_bytes l.texts.lines)
    × (string_bytes l.texts.mark ≡ string_bytes l.fn.texts.mark)

abbrev pub decreases-frames : goal.decreases-frames
decreases-frames g l = length l.rest
