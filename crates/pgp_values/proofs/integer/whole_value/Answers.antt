use Rattle.pgp_values.proofs.Common.{◌≡◌, ◌+◌, ap, ◌∙◌, arith, whole_value}
use Rattle.pgp_values.proofs.IntegerLemmas.{value_none, value_next, value_least}
use Rattle.pgp_values.proofs.integer.whole_value.Goals as goal

pub loop-i-init : goal.loop-i-init
loop-i-init c = (omega arith, value_none c.args.d.now.digits)

pub returns-in-None : goal.returns-in-None
returns-in-None c = λ h.
    let ds = c.args.d.now.digits in
    c.in-None.ensures (omega (arith, value_least ds (c.loop-i.i + 1) c.args.len (omega arith), value_next ds c.loop-i.i, c.loop-i.invariant.1, c.digit.ensures.value, h))

pub loop-i-preserved : goal.loop-i-preserved
loop-i-preserved c =
    let ds = c.args.d.now.digits in
    (omega (arith, c.in-Some.ensures.0, c.in-Some.ensures.1), omega (arith, c.in-Some.ensures.1, value_next ds c.loop-i.i, c.loop-i.invariant.1, c.digit.ensures.value))

pub returns : goal.returns
returns c =
    let met : c.loop-i.i ≡ c.args.len = omega arith in
    let is : c.loop-i.value ≡ whole_value c.args.d.now.digits c.args.len = c.loop-i.invariant.1 ∙ ap (whole_value c.args.d.now.digits) met in
    (omega (arith, is, c.loop-i.invariant.0), is)
