use Rattle.std.proofs.Common.{◌*◌, ◌+◌, ◌^◌, ap, ◌∙◌, subst}
use Rattle.pgp_value_text.proofs.Limbs.{is_cut, large_product}
use Rattle.pgp_value_text.specs.Tens.{value_of, BeginsWith, IsHalfCut}
use Rattle.pgp_value_text.proofs.tens.rounded_off.Goals as goal

pub returns-clause-cut : goal.returns-clause-cut
returns-clause-cut c =
    let front = c.front_of-front.result in
    let cut = c.cut_of-cut.result in
    let value = ap value_of c.as_slice.ensures.value ∙ c.product.ensures.value in
    is_cut c.args.digits front.number front.limbs (c.args.num * 10 ^ 18 * c.args.base ^ c.args.count) cut.number cut.tens front.more c.requires.digits.1
    (large_product c.args.num c.args.base c.args.count c.requires.some.0 c.requires.some.1)
    (subst (λ v. BeginsWith front.number front.more front.limbs v) value c.front_of-front.ensures.front)
    (subst (λ k. IsHalfCut c.args.digits (front.number * 2 + k) cut.number cut.tens) c.from.ensures c.cut_of-cut.ensures.cut)
