use Rattle.pgp_auth.proofs.Common.{◌≡◌, ◌<◌, ◌^◌, length, get_or, ap, arith, xor_of_8}
use Rattle.pgp_auth.proofs.Differences.{step_same, step_none, all_same}
use Rattle.pgp_auth.proofs.scram.verify.difference.Goals as goal

pub returns : goal.returns
returns c =
    let len : length c.args.right.now ≡ length c.args.left.now = omega arith in (
      λ zero_. all_same c.args.left.now c.args.right.now c.loop-i.i len c.loop-i-test.false (c.loop-i.invariant.same zero_),
      λ same. c.loop-i.invariant.none (λ k lt. ap (λ l. get_or l k 0) same),
    )

pub loop-i-preserved : goal.loop-i-preserved
loop-i-preserved c =
    let right : get_or c.args.right.now c.loop-i.i 0 < 2 ^ 8 = omega (arith, c.type_inv.right c.loop-i.i) in
    let low : c.from-sum.result < 2 ^ 8 = rw c.from-sum.ensures (xor_of_8 (get_or c.args.left.now c.loop-i.i 0) (get_or c.args.right.now c.loop-i.i 0) (c.fits-left c.loop-i.i) right) in
    let few = c.loop-i.invariant.few in
    record {
      same = step_same c.args.left.now c.args.right.now c.loop-i.i c.loop-i.sum c.from-sum.result c.from-sum.ensures c.loop-i.invariant.same;
      none = step_none c.args.left.now c.args.right.now c.loop-i.i c.loop-i.sum c.from-sum.result c.from-sum.ensures c.loop-i.invariant.none;
      few = omega (arith, low, few);
    }
