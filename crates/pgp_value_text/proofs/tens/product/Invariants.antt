-- The product of the factors so far.
use Rattle.std.proofs.Common.{◌≡◌, ◌+◌, ◌*◌, ◌^◌, ◌<◌, All}
use Rattle.arrayvec.specs.ArrayVec.{array_vec_len}
use Rattle.pgp_value_text.specs.Tens.{value_of}
use Rattle.pgp_value_text.proofs.tens.product.Given as goal

abbrev pub invariant-twelve : goal.invariant-twelve
invariant-twelve l = record {
  value : value_of l.limbs.items ≡ l.fn.num * 10 ^ 18 * l.fn.base ^ (12 * l.counter);
  digits : All (λ x. x < 1_000_000_000) l.limbs.items;
  len : array_vec_len l.limbs ≡ 4 + l.counter;
}
