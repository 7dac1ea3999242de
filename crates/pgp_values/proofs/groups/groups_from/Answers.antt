use Rattle.pgp_values.proofs.Common.{◌+◌, ◌-◌, ◌/◌, ◌<◌, length, refl, arith, to_z-of_z, if_err_at}
use Rattle.pgp_values.proofs.GroupLemmas.{number_value, weight_fits, weight_past}
use Rattle.pgp_values.proofs.groups.groups_from.Goals as goal

pub returns-in_err-weight-clause-past : goal.returns-in_err-weight-clause-past
returns-in_err-weight-clause-past c =
    let w = c.args.w.now in
    let point = c.point_of-point.result in
    if_err_at _ _ _ c.from_residual.ensures.1 (
      c.in_err-weight.ensures.past.0,
      weight_past w.negative w.whole.now w.fraction.now w.divided w.exponent c.args.first point ((point - 1 - c.args.first) / 4) c.requires.first.0 c.requires.first.1.1 c.point_of-point.ensures.value refl
          c.args.scale c.requires.scale c.requires.shown c.in_err-weight.ensures.past.1,
    )

pub returns-clause-value : goal.returns-clause-value
returns-clause-value c =
    let w = c.args.w.now in
    let point = c.point_of-point.result in
    let top = (point - 1 - c.args.first) / 4 in
    let weight = c.in_ok-weight.weight in
    let fits = weight_fits weight top c.in_ok-weight.ensures.weight in
    let few : length w.whole.now + length w.fraction.now < point = omega arith in
    rw (to_z-of_z fits) (number_value w.negative w.whole.now w.fraction.now w.divided w.exponent weight c.args.scale c.requires.shown c.requires.scale c.requires.small c.args.first c.last_of-last.result c.count_from.result point top
    c.last_of-last.ensures.inside.1 c.last_of-last.ensures.inside.0 c.requires.first.1.0 c.last_of-last.ensures.last c.requires.first.1.1 c.last_of-last.ensures.some few refl c.count_from.ensures c.count_from.type_inv c.point_of-point.ensures.value c.in_ok-weight.ensures.weight)
