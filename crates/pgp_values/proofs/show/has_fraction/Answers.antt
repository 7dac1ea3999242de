use Rattle.pgp_values.proofs.Common.{◌≡◌, ◌+◌, ap, ◌∙◌, sym, arith, behind_point}
use Rattle.pgp_values.proofs.TextLemmas.{has_none, has_one}
use Rattle.pgp_values.proofs.show.has_fraction.Goals as goal

pub returns-then-behind_point-ne0 : goal.returns-then-behind_point-ne0
returns-then-behind_point-ne0 c =
    let f = behind_point c.args.d.now.weight c.args.d.now.digits in
    let i = c.loop-i.i in
    let here : i ≡ 0 + i = omega arith in
    sym (has_one f 0 c.args.d.now.scale i (omega arith) (λ z. c.if-behind_point-ne0.true (c.behind_point.ensures.value ∙ (ap f here ∙ z))))

pub returns : goal.returns
returns c = sym (has_none (behind_point c.args.d.now.weight c.args.d.now.digits) 0 c.args.d.now.scale (λ i a b. c.loop-i.invariant i (omega arith)))
