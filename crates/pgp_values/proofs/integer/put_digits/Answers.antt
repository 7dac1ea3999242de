use Rattle.pgp_values.proofs.IntegerLemmas.{none_stands, one_more}
use Rattle.pgp_values.proofs.integer.put_digits.Goals as goal

pub loop-rest-init : goal.loop-rest-init
loop-rest-init c = none_stands c.args.digits.now c.args.n c.requires c.ranges.n.fits

pub loop-rest-preserved : goal.loop-rest-preserved
loop-rest-preserved c = one_more c.loop-rest.digits c.loop-rest.at c.loop-rest.rest c.args.n c.loop-rest.invariant c.loop-rest-test.true
