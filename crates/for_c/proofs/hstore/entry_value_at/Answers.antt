use Rattle.for_c.proofs.Common.{rules, value_read, value_bad}
use Rattle.for_c.proofs.hstore.entry_value_at.Goals as goal

pub returns-in-Ok : goal.returns-in-Ok
returns-in-Ok c = value_read c.args.bytes.now c.in-Some.value.now c.in_ok-value.rest.now (search rules) c.in-Ok.ensures.1

pub returns-in-Err : goal.returns-in-Err
returns-in-Err c = value_bad c.args.bytes.now c.in-Some.value.now c.in_ok-value.rest.now (search rules) c.in-Err.ensures.1
