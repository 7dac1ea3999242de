use Rattle.std.proofs.Common.{◌≡◌, false}
use Rattle.test_bench.proofs.pieces.feed.Given as goal

abbrev pub invariant-pieces : goal.invariant-pieces
invariant-pieces l =
    (goal.iterator-pieces).can_next l.piece-iterator ×
    (goal.iterator-pieces).is_finite l.piece-iterator ×
    (l.parser.failed ≡ false)
