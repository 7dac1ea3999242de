use Rattle.pgtrace_summary.proofs.Common.{arith, tallies_of, tally_of, take, length-map, take_all}
use Rattle.pgtrace_summary.proofs.Ranks.{keys_more, ranked_is}
use Rattle.pgtrace_summary.proofs.ranking.sorted_keys.Goals as goal

pub each-preserved : goal.each-preserved
each-preserved g c = keys_more (tallies_of c.args.entries.now) c.each.place c.each.keys.items c.put_key.new.keys.items c.each.invariant c.in_ok-put_key.ensures.added c.in_ok-put_key.ensures.fits

pub returns-clause-ranked : goal.returns-clause-ranked
returns-clause-ranked g c =
    let all = tallies_of c.args.entries.now in
    ranked_is all (take c.each.place all) c.each.keys.items c.sort_unstable.new.self.items (take_all c.each.place all (omega (arith, c.each-test.false, c.len-place-end.ensures, length-map c.args.entries.now tally_of))) c.each.invariant c.sort_unstable.ensures.permutation c.sort_unstable.ensures.sorted
