use Rattle.for_c_auth.proofs.Common.{refl, rules}
use Rattle.for_c_auth.proofs.Kept.{passed_one, setting, stands_here}
use Rattle.for_c_auth.proofs.settings.find.Goals as goal

pub returns-then-eq : goal.returns-then-eq
returns-then-eq c =
    let some = c.in-Some.ensures.some in
    stands_here c.args.name.now c.args.bytes.now c.settings.rest.now c.settings.invariant (setting c.in-Some.first.now c.in-Some.field-0-1.now) c.in-Some.behind.now some.0 some.1 _ _ refl refl (search rules)

pub settings-preserved : goal.settings-preserved
settings-preserved c =
    let some = c.in-Some.ensures.some in
    passed_one c.args.name.now c.args.bytes.now c.settings.rest.now c.settings.invariant (setting c.in-Some.first.now c.in-Some.field-0-1.now) c.in-Some.behind.now some.0 some.1 (search rules)
