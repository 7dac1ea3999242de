use Rattle.pgp_values.proofs.Common.{◌+◌, refl, arith}
use Rattle.pgp_values.proofs.GroupLemmas.{spelled_next, spelled_take}
use Rattle.pgp_values.proofs.scan.exponent_of.Goals as goal

pub loop-i-preserved : goal.loop-i-preserved
loop-i-preserved c = (omega arith, omega (arith, c.loop-i.invariant.1, c.digit_of.ensures.value, spelled_next c.args.digits.now c.loop-i.i (omega arith)))

pub returns-then-value-ge-LIMIT-clause-past : goal.returns-then-value-ge-LIMIT-clause-past
returns-then-value-ge-LIMIT-clause-past c =
    (refl, omega (arith, c.if-value-ge-LIMIT.true, c.loop-i.invariant.1, c.digit_of.ensures.value, spelled_next c.args.digits.now c.loop-i.i (omega arith), spelled_take c.args.digits.now (c.loop-i.i + 1)))
