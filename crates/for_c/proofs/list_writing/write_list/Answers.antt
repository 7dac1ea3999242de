use Rattle.for_c.proofs.Common.{rules, map, list}
use Rattle.for_c.proofs.ListWriting.{writes_value, fails_value}
use Rattle.for_c.proofs.list_writing.write_list.Goals as goal

pub returns-clause-wrote : goal.returns-clause-wrote
returns-clause-wrote g c z =
    let xs = map g.T.Written.meaning c.args.items.now in
    writes_value (list g.T.Written.item) xs c.new-window.result c.put_list-answer.new.buf c.args.out.now _ c.new-window.ensures c.put_list-answer.result c.put_list-answer.ensures.ok _ (search rules) _ (c.ended.ensures.sent z)

pub returns-clause-refused : goal.returns-clause-refused
returns-clause-refused g c z =
    let xs = map g.T.Written.meaning c.args.items.now in
    fails_value (list g.T.Written.item) xs c.new-window.result c.args.out.now _ c.new-window.ensures c.put_list-answer.result c.put_list-answer.ensures.cause _ _ (c.ended.ensures.refused z)
