use Rattle.for_c.proofs.Common.{rules, array, array_of}
use Rattle.for_c.proofs.ListWriting.{writes_value, fails_value}
use Rattle.for_c.proofs.array_writing.write_array.Goals as goal

pub returns-clause-wrote : goal.returns-clause-wrote
returns-clause-wrote c z =
    let a = array_of c.args.element_type c.args.dimensions.now c.args.elements.now in
    writes_value array a c.new-window.result c.put_array-answer.new.buf c.args.out.now _ c.new-window.ensures c.put_array-answer.result c.put_array-answer.ensures.ok _ (search rules) _ (c.ended.ensures.sent z)

pub returns-clause-refused : goal.returns-clause-refused
returns-clause-refused c z =
    let a = array_of c.args.element_type c.args.dimensions.now c.args.elements.now in
    fails_value array a c.new-window.result c.args.out.now _ c.new-window.ensures c.put_array-answer.result c.put_array-answer.ensures.cause _ _ (c.ended.ensures.refused z)
