use Rattle.pgp_values.proofs.Common.{rules, ◌≡◌, true, false, inl, inr, refl, sym, ◌∙◌, arith, to_z-of_z, only_memory, IsDecimal, all_small}
use Rattle.pgp_values.specs.DecimalDigits.{decimal_of}
use Rattle.pgp_values.proofs.Pairs.{small_yes, small_passes}
use Rattle.pgp_values.proofs.digits.numeric_digits_to_sql.Goals as goal

pub returns-then-not-are_small : goal.returns-then-not-are_small
returns-then-not-are_small g c =
    let past : all_small c.args.digits.now ≡ false = search rules in
    (inr (omega arith, (omega arith, λ digits. absurd (let t : true ≡ false = sym (small_passes c.args.digits.now digits) ∙ past in cc))), record { bytes = refl; kept = refl })

pub returns-in-Ok : goal.returns-in-Ok
returns-in-Ok g c =
    let small : all_small c.args.digits.now ≡ true = search rules in
    let done = rw (to_z-of_z c.ranges.weight) at c.in-Ok.ensures in
    (record { weight = c.ranges.weight; scale = omega arith; count = omega arith; digits = small_yes c.args.digits.now small }, done.1)

pub returns-in-Err : goal.returns-in-Err
returns-in-Err g c =
    let small : all_small c.args.digits.now ≡ true = search rules in
    let refused = rw (to_z-of_z c.ranges.weight) at c.in-Err.ensures in
    let is : IsDecimal (decimal_of c.args.negative c.args.weight c.args.scale c.args.digits.now) = record { weight = c.ranges.weight; scale = omega arith; count = omega arith; digits = small_yes c.args.digits.now small } in
    (inl (refl, (is, (only_memory _ refused.0).1)), refused.1)
