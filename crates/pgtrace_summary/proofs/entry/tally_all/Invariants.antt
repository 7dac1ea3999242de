-- Those so far were added.
use Rattle.pgtrace_summary.proofs.Common.{◌≡◌, tallies_of, tally_after, take}
use Rattle.pgtrace_summary.proofs.entry.tally_all.Given as goal

abbrev pub invariant-each : goal.invariant-each
invariant-each g l = tallies_of l.entries ≡ tally_after (tallies_of l.fn.entries) (take l.place (tallies_of l.others))
