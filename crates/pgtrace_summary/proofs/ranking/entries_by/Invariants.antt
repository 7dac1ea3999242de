-- With those of the rest they are all.
use Rattle.pgtrace_summary.proofs.Common.{◌≡◌, ◌++◌, length, tallies_of, flat_map, picked}
use Rattle.pgtrace_summary.proofs.ranking.entries_by.Given as goal

abbrev pub invariant-keys : goal.invariant-keys
invariant-keys g l = l.list.items ++ flat_map (picked (tallies_of l.entries)) l.rest ≡ flat_map (picked (tallies_of l.fn.entries)) l.fn.keys

abbrev pub decreases-keys : goal.decreases-keys
decreases-keys g l = length l.rest
