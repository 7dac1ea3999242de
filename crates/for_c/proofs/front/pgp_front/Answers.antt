use Rattle.for_c.proofs.Common.{rules, Ok, Some, DataRow}
use Rattle.for_c.proofs.Fronts.{reported}
use Rattle.for_c.proofs.front.pgp_front.Goals as goal

pub returns-in-Some : goal.returns-in-Some
returns-in-Some c = reported c.args.bytes.now c.rest.result.now (Ok (Some (DataRow c.in-Some.row))) _ _ (search rules) (search rules) (search rules) (search rules, search rules, search rules) (search rules) (search rules)
