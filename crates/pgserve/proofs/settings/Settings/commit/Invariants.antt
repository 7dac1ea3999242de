use Rattle.std.proofs.Common.{◌≡◌}
use Rattle.pgserve.proofs.settings.Settings.commit.Given as goal

abbrev pub invariant-undone : goal.invariant-undone
invariant-undone l = l.out.bytes ≡ l.fn.out.bytes
