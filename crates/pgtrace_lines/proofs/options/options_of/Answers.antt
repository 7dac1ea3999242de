use Rattle.pgtrace_lines.proofs.Common.{◌+◌, refl, map, arith, take_rest, chosen_of}
use Rattle.pgtrace_lines.proofs.OptionLemmas.{place_more, received_all, received_none, received_wrong}
use Rattle.pgtrace_lines.proofs.options.options_of.Goals as goal

pub each-init : goal.each-init
each-init g c = (omega arith, received_none c.args.terminal (map (λ word. word.now) c.args.has.now) (map (λ word. word.now) c.args.words.now) (chosen_of c.no_options-options.result) c.no_options-options.ensures)

pub each-preserved : goal.each-preserved
each-preserved g c =
    let first = rw take_rest at c.in-Some.ensures.some in
    place_more c.args.terminal (λ word. word.now) (map (λ word. word.now) c.args.has.now) c.args.words.now c.each.at c.len-at.result (c.each.at + c.len-at.result) (chosen_of c.each.options) (chosen_of c.choose.new.options) c.in-Some.choice
    c.each-test.true c.each.invariant.1 first.1 first.0 c.len-at.ensures refl c.in_ok-choose.ensures.chosen

pub returns-in_default-clause-other : goal.returns-in_default-clause-other
returns-in_default-clause-other g c =
    received_wrong c.args.terminal (λ word. word.now) (map (λ word. word.now) c.args.has.now) (map (λ word. word.now) c.args.words.now) c.args.words.now c.each.at (chosen_of c.each.options)
    c.each-test.true c.each.invariant.1 (rw take_rest at c.in_default.ensures.none)

pub returns-clause-known : goal.returns-clause-known
returns-clause-known g c =
    received_all c.args.terminal (λ word. word.now) (map (λ word. word.now) c.args.has.now) (map (λ word. word.now) c.args.words.now) c.args.words.now c.each.at (chosen_of c.each.options)
    c.each-test.false c.each.invariant.1
