use Rattle.pgp_value_text.proofs.Common.{ap, drop, map, shown_number, drop_all}
use Rattle.pgp_value_text.proofs.Figures.{each_none, each_step, left_end}
use Rattle.pgp_value_text.proofs.figure.push_numbers.Goals as goal

pub each-preserved : goal.each-preserved
each-preserved g c =
    each_step c.args.numbers.now c.each.number-index _ c.each-test.true c.args.end.now c.args.out.now.items c.each.out.items c.push_number.new.out.items c.each.invariant
    c.in_ok-push_number.field-0 c.in_ok-push_number.ensures c.if-not-branch.false

pub returns-then-not-branch : goal.returns-then-not-branch
returns-then-not-branch g c =
    each_none c.args.numbers.now c.each.number-index _ c.each-test.true c.args.end.now c.args.out.now.items c.each.out.items c.push_number.new.out.items c.each.invariant
    c.in_ok-push_number.field-0 c.in_ok-push_number.ensures c.if-not-branch.true

pub returns : goal.returns
returns g c =
    left_end (map shown_number c.args.numbers.now) c.args.end.now c.args.out.now.items (map shown_number (drop c.each.number-index c.args.numbers.now)) _ c.each.out.items c.put.new.text.items c.put.result
    (ap (λ l. map shown_number l) (drop_all c.each.number-index c.args.numbers.now c.each-test.false)) c.each.invariant c.put.ensures
