use Rattle.for_c.proofs.ArrayShapes.{misshapen}
use Rattle.for_c.proofs.array_writing.check_shape.Goals as goal

pub returns-in-Err-clause-err : goal.returns-in-Err-clause-err
returns-in-Err-clause-err c = misshapen c.args.dimensions.now c.args.count c.in-Err.e c.in-Err.ensures.err
