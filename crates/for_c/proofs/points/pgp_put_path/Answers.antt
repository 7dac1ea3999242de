use Rattle.for_c.proofs.Common.{rules, path, path_of}
use Rattle.for_c.proofs.ListWriting.{writes_value, fails_value}
use Rattle.for_c.proofs.points.pgp_put_path.Goals as goal

pub returns-clause-wrote : goal.returns-clause-wrote
returns-clause-wrote c z =
    writes_value path (path_of c.args.is_closed c.args.points.now) c.new-window.result c.put_path-answer.new.buf c.args.out.now _ c.new-window.ensures c.put_path-answer.result c.put_path-answer.ensures.ok _ (search rules) _ (c.ended.ensures.sent z)

pub returns-clause-refused : goal.returns-clause-refused
returns-clause-refused c z =
    fails_value path (path_of c.args.is_closed c.args.points.now) c.new-window.result c.args.out.now _ c.new-window.ensures c.put_path-answer.result c.put_path-answer.ensures.cause _ _ (c.ended.ensures.refused z)
