-- What came so far was listed, and passed on.
use Rattle.pgtrace_session.proofs.Common.{◌≡◌, ◌⊎◌, false, view_of, kept_of, Follows}
use Rattle.std.specs.Io.KnownBytes.{Keeps}
use Rattle.pgtrace_session.proofs.session.list_pieces.Given as goal

abbrev pub invariant-pieces : goal.invariant-pieces
invariant-pieces g l =
    Follows (view_of l.view) l.fn.marking (record { input = g.R.Read.remaining l.fn.input; output = g.W.Write.contents l.fn.output })
    (record { input = g.R.Read.remaining l.input; output = g.W.Write.contents l.output })
    l.held.begun false (kept_of l.held.talk) l.held.bytes.items
    × (Keeps (g.W.Write.contents l.fn.output) (g.W.Write.contents l.output) ⊎ g.W.Output.Passed l.output)
    × ((l.counter ≡ 0) ⊎ g.R.Input.Called l.input l.counter)
