use Rattle.for_c.proofs.Common.{rules, arith}
use Rattle.for_c.proofs.Copies.{head_sent, head_lacks}
use Rattle.for_c.proofs.copying.pgp_copy_data_head.Goals as goal

pub returns-in-Ok-clause-sent : goal.returns-in-Ok-clause-sent
returns-in-Ok-clause-sent c z =
    head_sent c.args.len _ (search rules) (omega arith) c.new-window.result c.put_head.new.buf c.args.out.now _ c.new-window.ensures c.in-Ok.ensures.ok _ (search rules) _ c.sent.ensures.reported

pub returns-in-Err-clause-refused : goal.returns-in-Err-clause-refused
returns-in-Err-clause-refused c z =
    head_lacks c.args.len c.new-window.result c.args.out.now _ c.new-window.ensures c.in-Err.e _ _ c.in-Err.ensures.cause c.refused-in-Err.ensures.code c.refused-in-Err.ensures.reported
