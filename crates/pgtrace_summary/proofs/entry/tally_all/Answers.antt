use Rattle.pgtrace_summary.proofs.Common.{◌∙◌, ap, tally_after, tallies_of, slice_get, option_to_list}
use Rattle.pgtrace_summary.proofs.Adding.{add_next}
use Rattle.pgtrace_summary.proofs.entry.tally_all.Goals as goal

pub each-preserved : goal.each-preserved
each-preserved g c =
    let others = tallies_of c.args.others.now in
    c.in_ok-tally_at.ensures.tallied ∙ ap (λ l. tally_after l (option_to_list (slice_get others c.each.place))) c.each.invariant ∙ add_next (tallies_of c.args.entries.now) others c.each.place
