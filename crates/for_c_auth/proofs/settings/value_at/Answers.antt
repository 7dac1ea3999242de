use Rattle.for_c_auth.proofs.Common.{◌+◌, length, refl, subst, StandsAt}
use Rattle.for_c_auth.proofs.Kept.{value_found}
use Rattle.for_c_auth.proofs.settings.value_at.Goals as goal

pub returns-clause-value : goal.returns-clause-value
returns-clause-value c = λ z.
    let place = c.find-place.result in
    let stands = subst (λ l. StandsAt c.args.name.now l place.start place.end) c.kept.ensures c.find-place.ensures in
    (value_found c.args.name.now c.args.settings.now.room.now c.args.settings.now.len place.start place.end (place.start + length c.args.name.now + 1) refl stands c.if-place.false).0
