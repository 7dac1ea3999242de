use Rattle.pgp_session.proofs.Common.{rules, codes, TakesItem, plain}
use Rattle.pgp_session.proofs.StartupNames.{none_named, one_named}
use Rattle.pgp_session.proofs.startup_names.startup_names.Goals as goal

pub pairs-init : goal.pairs-init
pairs-init c = record { user = none_named (codes "user") (plain c.args.parameters); database = none_named (codes "database") (plain c.args.parameters) }

pub pairs-preserved : goal.pairs-preserved
pairs-preserved c =
    let took : TakesItem (plain c.pairs.parameters) (c.in-Ok-Some.name.now, c.in-Ok-Some.value.now) (plain c.next.new.self) = search rules in
    record {
      user = one_named (codes "user") c.in-Ok-Some.name.now c.in-Ok-Some.value.now _ (plain c.pairs.parameters) _ _ _ c.pairs.invariant.user took c.newer-user.ensures;
      database = one_named (codes "database") c.in-Ok-Some.name.now c.in-Ok-Some.value.now _ (plain c.pairs.parameters) _ _ _ c.pairs.invariant.database took c.newer-database.ensures;
    }
