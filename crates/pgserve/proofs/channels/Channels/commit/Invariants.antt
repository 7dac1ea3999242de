use Rattle.std.proofs.Common.{◌≡◌}
use Rattle.pgserve.proofs.channels.Channels.commit.Given as goal

abbrev pub invariant-loop-place : goal.invariant-loop-place
invariant-loop-place l = l.out.bytes ≡ l.fn.out.bytes
