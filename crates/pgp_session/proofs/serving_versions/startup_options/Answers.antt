use Rattle.pgp_session.proofs.Common.{rules, TakesItem, plain}
use Rattle.pgp_session.proofs.OptionNames.{none_listed, one_listed}
use Rattle.pgp_session.proofs.serving_versions.startup_options.Goals as goal

pub pairs-init : goal.pairs-init
pairs-init g c = none_listed (plain c.args.parameters) _ (search rules)

pub pairs-preserved : goal.pairs-preserved
pairs-preserved g c =
    let took : TakesItem (plain c.pairs.parameters) (c.in-Ok-Some.name.now, c.in-Ok-Some.field-0-0-1.now) (plain c.next.new.self) = search rules in
    one_listed c.in-Ok-Some.name.now c.in-Ok-Some.field-0-0-1.now _ (plain c.pairs.parameters) _ _ _ c.pairs.invariant took (search rules)
