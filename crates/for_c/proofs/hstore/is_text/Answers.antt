use Rattle.for_c.proofs.Pairs.{is_a_text, is_no_text}
use Rattle.for_c.proofs.hstore.is_text.Goals as goal

pub returns-in-Ok : goal.returns-in-Ok
returns-in-Ok c = is_a_text c.args.bytes.now c.in-Ok.ensures.1

pub returns-in-Err : goal.returns-in-Err
returns-in-Err c = is_no_text c.args.bytes.now c.in-Err.ensures.1
