use Rattle.pgp_values.proofs.Common.{◌≡◌, ◌+◌, ap, ◌∙◌, sym, arith, decimal_at}
use Rattle.pgp_values.proofs.TextLemmas.{has_none, has_one}
use Rattle.pgp_values.proofs.show.has_digit_to.Goals as goal

pub returns-then-decimal_at-ne0 : goal.returns-then-decimal_at-ne0
returns-then-decimal_at-ne0 c =
    let f = decimal_at c.args.d.now.digits in
    let i = c.loop-i.i in
    let here : i ≡ 0 + i = omega arith in
    sym (has_one f 0 c.args.count i (omega arith) (λ z. c.if-decimal_at-ne0.true (c.decimal_at.ensures.value ∙ (ap f here ∙ z))))

pub returns : goal.returns
returns c = sym (has_none (decimal_at c.args.d.now.digits) 0 c.args.count (λ i a b. c.loop-i.invariant i (omega arith)))
