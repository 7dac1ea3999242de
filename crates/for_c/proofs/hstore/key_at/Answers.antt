use Rattle.for_c.proofs.Common.{key_read, key_bad}
use Rattle.for_c.proofs.hstore.key_at.Goals as goal

pub returns-in-Ok : goal.returns-in-Ok
returns-in-Ok c = key_read c.args.bytes.now c.in_ok-key.key.now c.in_ok-key.rest.now c.in_ok-key.ensures c.in-Ok.ensures.1

pub returns-in-Err : goal.returns-in-Err
returns-in-Err c = key_bad c.args.bytes.now c.in_ok-key.key.now c.in_ok-key.rest.now c.in_ok-key.ensures c.in-Err.ensures.1
