use Rattle.std.proofs.Common.{◌≡◌, ◌+◌, ◌*◌, ◌<◌, ◌^◌, ap, refl, get_or, drop, length, arith, ◌∙◌}
use Rattle.std.proofs.lemmas.List.Elements.{All-push}
use Rattle.std.proofs.lemmas.List.{drop_all}
use Rattle.pgp_value_text.proofs.Limbs.{times_step, carry_small, value_push}
use Rattle.pgp_value_text.specs.Tens.{value_of}
use Rattle.pgp_value_text.proofs.tens.times.Goals as goal

pub limbs-preserved : goal.limbs-preserved
limbs-preserved c =
    let xs = c.args.limbs.now in
    let i = c.limbs.limb-index in
    let x = get_or xs i 0 in
    let sum : c.from.result * c.from-in-limbs.result + c.limbs.carry ≡ x * c.args.factor + c.limbs.carry = rw (c.from.ensures, c.from-in-limbs.ensures) refl in
    let small = carry_small x c.args.factor c.limbs.carry (c.requires.digits i 0 c.limbs-test.true) c.limbs.invariant.carry c.requires.factor in
    record {
      value = times_step xs c.limbs.product.items c.push.new.self.items i 0 c.args.factor c.limbs.carry _ c.limbs-test.true sum c.push.ensures.items c.limbs.invariant.value;
      digits = rw c.push.ensures.items (All-push (λ x. x < 1_000_000_000) _ _ c.limbs.invariant.digits (omega arith));
      len = omega (arith, c.push.ensures.len, c.limbs.invariant.len);
      carry = rw sum small.1;
    }

pub returns-clause-value : goal.returns-clause-value
returns-clause-value c =
    let e : value_of c.push-2.new.self.items ≡ value_of (c.limbs.product.items) + 1_000_000_000 ^ length c.limbs.product.items * c.limbs.carry = ap value_of c.push-2.ensures.items ∙ value_push c.limbs.product.items c.limbs.carry in
    let none : value_of (drop c.limbs.limb-index c.args.limbs.now) ≡ 0 = ap value_of (drop_all c.limbs.limb-index c.args.limbs.now c.limbs-test.false) in
    let inv : value_of c.limbs.product.items + 1_000_000_000 ^ length c.limbs.product.items * (c.limbs.carry + c.args.factor * 0) ≡ value_of c.args.limbs.now * c.args.factor = rw none at c.limbs.invariant.value in
    omega (arith, e, inv)
