use Rattle.std.proofs.Common.{◌+◌, ◌-◌, ◌/◌, ◌%◌, ◌∷◌, ◌++◌, sym, ap, ◌∙◌, arith}
use Rattle.std.proofs.Math.Seq.{append_snoc}
use Rattle.pgp_value_text.proofs.Common.{last_digits}
use Rattle.pgp_value_text.proofs.Rounding.{first_digit}
use Rattle.pgp_value_text.proofs.rounded.put_last.Goals as goal

pub digits-preserved : goal.digits-preserved
digits-preserved g c =
    let n = c.args.number in
    let rest = last_digits (c.args.places - (c.digits.back + 1)) n in
    let digit = ap (λ p. c.digits.out.bytes ++ (48 + n / p % 10) ∷ rest) c.pow.ensures in (
      ap (λ t. t ++ rest) c.put.ensures.text
          ∙ (append_snoc c.digits.out.bytes (48 + n / c.pow.result % 10) rest
          ∙ (digit ∙ (ap (λ t. c.digits.out.bytes ++ t) (sym (first_digit c.args.places c.digits.back n c.digits-test.true)) ∙ c.digits.invariant.0))),
      omega (arith, c.put.ensures.len, c.digits.invariant.1),
    )
