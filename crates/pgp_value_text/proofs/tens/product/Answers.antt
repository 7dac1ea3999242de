use Rattle.std.proofs.Common.{◌≡◌, ◌+◌, ◌*◌, ◌%◌, ◌^◌, ap, length, arith, sym, ◌∙◌}
use Rattle.std.proofs.Math.Pow.{pow-add}
use Rattle.pgp_value_text.proofs.tens.product.Goals as goal

pub twelve-preserved : goal.twelve-preserved
twelve-preserved c =
    let b = c.args.base in
    let p : b ^ (12 * (c.twelve.counter + 1)) ≡ b ^ (12 * c.twelve.counter) * b ^ 12 = ap (λ k. b ^ k) (let s : 12 * (c.twelve.counter + 1) ≡ 12 * c.twelve.counter + 12 = omega arith in s) ∙ pow-add b (12 * c.twelve.counter) 12 in
    record {
      value = rw (c.times-limbs.ensures.value, c.as_slice.ensures.value, c.pow.ensures, c.twelve.invariant.value, p) (omega arith);
      digits = c.times-limbs.ensures.digits;
      len = let l = ap length c.as_slice.ensures.value in omega (arith, c.times-limbs.ensures.len, l, c.twelve.invariant.len);
    }

pub returns-clause-value : goal.returns-clause-value
returns-clause-value c =
    let b = c.args.base in
    let e : 12 * c.twelve.counter + c.args.count % 12 ≡ c.args.count = omega arith in
    let p : b ^ c.args.count ≡ b ^ (12 * c.twelve.counter) * b ^ (c.args.count % 12) = ap (λ k. b ^ k) (sym e) ∙ pow-add b (12 * c.twelve.counter) (c.args.count % 12) in
    rw (c.times.ensures.value, c.as_slice-2.ensures.value, c.pow-2.ensures, c.twelve.invariant.value, p) (omega arith)
