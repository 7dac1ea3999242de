use Rattle.pgp_values.proofs.Common.{◌++◌, map, pos, refl, sym, subst, digit_value, reported_by, grouped, IsValueOf}
use Rattle.pgp_values.proofs.GroupLemmas.{zero_value}
use Rattle.pgp_values.proofs.groups.groups_of.Goals as goal

pub returns-in-None-clause-value : goal.returns-in-None-clause-value
returns-in-None-clause-value c =
    let w = c.args.w.now in
    subst (λ r. IsValueOf (reported_by w.negative w.whole.now w.fraction.now w.divided w.exponent) (grouped (map digit_value (w.whole.now ++ w.fraction.now)) r)) (sym c.no_groups.ensures)
    (zero_value w.negative w.whole.now w.fraction.now w.divided w.exponent (pos 0) c.in_ok-scale.scale c.in_ok-scale.ensures.value c.in_ok-scale.ensures.small c.requires.small c.in-None.ensures refl)
