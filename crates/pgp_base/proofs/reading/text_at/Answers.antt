use Rattle.pgp_base.proofs.Common.{rules}
use Rattle.pgp_base.proofs.PartLemmas.{text_read, text_refused}
use Rattle.pgp_base.proofs.reading.text_at.Goals as goal

pub returns-in-Ok : goal.returns-in-Ok
returns-in-Ok c = rw c.in-Ok.ensures.0 (text_read c.args.bytes.now c.in_ok-string.string.now c.in_ok-string.rest.now (search rules) c.in-Ok.ensures.1)

pub returns-in-Err : goal.returns-in-Err
returns-in-Err c = text_refused c.args.bytes.now c.in_ok-string.string.now c.in_ok-string.rest.now (search rules) c.in-Err.ensures.1
