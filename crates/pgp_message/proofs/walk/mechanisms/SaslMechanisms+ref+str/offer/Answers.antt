use Rattle.pgp_message.proofs.Common.{rules}
use Rattle.pgp_base.proofs.Walks.{one_fewer}
use Rattle.pgp_message.proofs.Mechanisms.{none_sought, one_sought, all_sought, refused_sought}
use Rattle.pgp_message.proofs.walk.mechanisms.SaslMechanisms+ref+str.offer.Goals as goal

pub names-init : goal.names-init
names-init c = none_sought c.args.sought.now c.args.self

pub names-smaller : goal.names-smaller
names-smaller c = one_fewer c.names.self c.in-Ok-Some.name.now c.next.new.self (search rules)

pub names-preserved : goal.names-preserved
names-preserved c =
    one_sought c.args.sought.now c.args.self c.names.self c.next.new.self c.names.found _ c.in-Ok-Some.name.now c.names.invariant (search rules) (search rules) (search rules) (search rules)

pub returns-in-Ok-None-clause-yes : goal.returns-in-Ok-None-clause-yes
returns-in-Ok-None-clause-yes c = λ e.
    let all = all_sought c.args.sought.now c.args.self c.names.self c.next.new.self c.names.found c.names.invariant (search rules) in
    (all.0, all.1.0 e)

pub returns-in-Ok-None-clause-no : goal.returns-in-Ok-None-clause-no
returns-in-Ok-None-clause-no c = λ e none.
    let all = all_sought c.args.sought.now c.args.self c.names.self c.next.new.self c.names.found c.names.invariant (search rules) in
    all.1.1 e

pub returns-in-Err-clause-no : goal.returns-in-Err-clause-no
returns-in-Err-clause-no c = λ e none. absurd (refused_sought c.args.sought.now c.args.self c.names.self c.next.new.self c.in-Err.field-0 c.names.found c.names.invariant (search rules) none)
