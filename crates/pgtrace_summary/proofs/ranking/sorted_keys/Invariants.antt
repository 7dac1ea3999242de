-- Those so far are the keys of the statements so far.
use Rattle.pgtrace_summary.proofs.Common.{tallies_of, take, AreKeys}
use Rattle.pgtrace_summary.proofs.ranking.sorted_keys.Given as goal

abbrev pub invariant-each : goal.invariant-each
invariant-each g l = AreKeys 0 (take l.place (tallies_of l.entries)) l.keys.items
