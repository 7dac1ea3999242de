use Rattle.pgwire_engines.proofs.Common.{◌≡◌, ℕ, ◌+◌, ◌≤◌, List, ◌++◌, length, slice_split, is_newline, HasSent, lines_left, size_left}
use Rattle.pgwire_engines.proofs.client.send_lines.Given as goal

abbrev pub invariant-lines : goal.invariant-lines
invariant-lines g l = (before : List (List ℕ)) × (slice_split is_newline l.fn.script ≡ before ++ lines_left l.rest)
    × (l.number ≡ length before) × (l.number + size_left l.rest ≤ length l.fn.script + 1)
    × HasSent before (g.B.Buffer.held l.stream.buf).bytes l.stream.opened

abbrev pub decreases-lines : goal.decreases-lines
decreases-lines g l = size_left l.rest
