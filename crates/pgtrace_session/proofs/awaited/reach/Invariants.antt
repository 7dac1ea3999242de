-- Those that went are before the number.
use Rattle.pgtrace_session.proofs.Common.{◌≡◌, length, queue_of}
use Rattle.pgtrace_session.specs.Types.{since}
use Rattle.pgtrace_session.proofs.awaited.reach.Given as goal

abbrev pub invariant-older : goal.invariant-older
invariant-older g l = since l.fn.number (queue_of l.awaited.items) ≡ since l.fn.number (queue_of l.fn.awaited.items)

abbrev pub decreases-older : goal.decreases-older
decreases-older g l = length l.awaited.items
