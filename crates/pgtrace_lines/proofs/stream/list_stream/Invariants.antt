-- What came so far was listed, and passed on.
use Rattle.pgtrace_lines.proofs.Common.{◌≡◌, ◌⊎◌, Keeps, side_of, view_of}
use Rattle.pgtrace_lines.proofs.Traces.{Tracks}
use Rattle.pgtrace_lines.proofs.stream.list_stream.Given as goal

abbrev pub invariant-pieces : goal.invariant-pieces
invariant-pieces g l =
    Tracks (view_of l.view) (side_of l.fn.side) (record { input = g.R.Read.remaining l.fn.input; output = g.W.Write.contents l.fn.output })
    (record { input = g.R.Read.remaining l.input; output = g.W.Write.contents l.output })
    (record { side = side_of l.held.side; bytes = l.held.bytes.items; place = l.held.place; stopped = l.held.stopped; left = l.held.left })
    × (Keeps (g.W.Write.contents l.fn.output) (g.W.Write.contents l.output) ⊎ g.W.Output.Passed l.output)
    × ((l.counter ≡ 0) ⊎ g.R.Input.Called l.input l.counter)
