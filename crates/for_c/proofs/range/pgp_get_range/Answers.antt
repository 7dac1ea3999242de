use Rattle.for_c.proofs.Common.{rules, refl}
use Rattle.pgp_types.specs.RangeReading.{shown_side}
use Rattle.for_c.proofs.Compound.{range_placed, range_within}
use Rattle.for_c.proofs.range.pgp_get_range.Goals as goal

pub returns-in-Ok-Nonempty-clause-read : goal.returns-in-Ok-Nonempty-clause-read
returns-in-Ok-Nonempty-clause-read c z =
    range_placed c.args.bytes.now (shown_side c.in-Ok-Nonempty.lower) (shown_side c.in-Ok-Nonempty.upper) _ _ _ _ (search rules) c.bound_before-in-Ok-Nonempty.ensures c.bound_before-in-Ok-Nonempty-2.ensures
    (search rules) refl (search rules)

pub returns-in-Ok-Nonempty-clause-inside : goal.returns-in-Ok-Nonempty-clause-inside
returns-in-Ok-Nonempty-clause-inside c z =
    range_within c.args.bytes.now (shown_side c.in-Ok-Nonempty.lower) (shown_side c.in-Ok-Nonempty.upper) _ _ _ (search rules) c.bound_before-in-Ok-Nonempty.ensures c.bound_before-in-Ok-Nonempty-2.ensures
    refl (search rules) refl
