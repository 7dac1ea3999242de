use Rattle.for_c.proofs.Common.{rules, Ok, Err, Some, None}
use Rattle.pgp_message.specs.Views.{view}
use Rattle.for_c.proofs.Fronts.{reported}
use Rattle.for_c.proofs.front.any_front.Goals as goal

pub returns-in-Ok-None : goal.returns-in-Ok-None
returns-in-Ok-None c = reported c.args.bytes.now c.rest.result.now (Ok None) _ _ (search rules) (search rules) (search rules) (search rules, search rules, search rules) (search rules) (search rules)

pub returns-in-Ok-Some : goal.returns-in-Ok-Some
returns-in-Ok-Some c = reported c.args.bytes.now c.rest.result.now (Ok (Some (view c.in-Ok-Some.kept))) _ _ (search rules) (search rules) (search rules) (search rules, search rules, search rules) (search rules) (search rules)

pub returns-in-Err : goal.returns-in-Err
returns-in-Err c = reported c.args.bytes.now c.rest.result.now (Err c.in-Err.e) _ _ (search rules) (search rules) (search rules) (search rules) (search rules) (search rules)
