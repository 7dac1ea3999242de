use Rattle.for_c.proofs.Common.{rules, refl}
use Rattle.for_c.specs.Scalars.{spelled}
use Rattle.for_c.proofs.Sending.{wrote, lacked}
use Rattle.for_c.proofs.scalar.put.Goals as goal

pub returns-in-Ok-clause-wrote : goal.returns-in-Ok-clause-wrote
returns-in-Ok-clause-wrote c z =
    let bytes = spelled c.args.value in
    wrote bytes bytes refl c.new-window.result c.append.new.buf c.args.out.now _ c.new-window.ensures c.in-Ok.ensures.1 _ (search rules) _ c.sent.ensures.reported

pub returns-in-Err-clause-lacks : goal.returns-in-Err-clause-lacks
returns-in-Err-clause-lacks c z =
    let bytes = spelled c.args.value in
    lacked bytes bytes refl c.new-window.result c.args.out.now _ c.new-window.ensures c.in-Err.e _ _ c.in-Err.ensures.0 c.refused.ensures.code c.refused.ensures.reported
