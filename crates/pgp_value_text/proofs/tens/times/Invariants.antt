-- The product so far, its carry, and what is left to be multiplied.
use Rattle.std.proofs.Common.{◌≡◌, ◌+◌, ◌*◌, ◌^◌, ◌<◌, ◌≤◌, All, length, drop}
use Rattle.arrayvec.specs.ArrayVec.{array_vec_len}
use Rattle.pgp_value_text.specs.Tens.{value_of}
use Rattle.pgp_value_text.proofs.tens.times.Given as goal

abbrev pub invariant-limbs : goal.invariant-limbs
invariant-limbs l = record {
  value : value_of l.product.items + 1_000_000_000 ^ length l.product.items * (l.carry + l.fn.factor * value_of (drop l.limb-index l.limbs)) ≡ value_of l.limbs * l.fn.factor;
  digits : All (λ x. x < 1_000_000_000) l.product.items;
  len : array_vec_len l.product ≡ l.limb-index;
  carry : l.carry ≤ l.fn.factor;
}
