use Rattle.for_c.proofs.Common.{rules}
use Rattle.for_c.proofs.ArrayShapes.{product_more, stops_at}
use Rattle.for_c.proofs.array_writing.product.Goals as goal

pub loop-dimension-preserved : goal.loop-dimension-preserved
loop-dimension-preserved c =
    let k = c.in-Ok.ensures.ok in
    (product_more c.args.dimensions.now c.loop-dimension.dimension-index c.loop-dimension.product k.0 c.in-Ok.next _ (search rules) c.loop-dimension.invariant.0 k.1 k.2 k.3, k.3)

pub returns-in-Err-clause-err : goal.returns-in-Err-clause-err
returns-in-Err-clause-err c = stops_at c.args.dimensions.now c.loop-dimension.dimension-index c.loop-dimension.product _ c.in-Err.e (search rules) c.loop-dimension.invariant.0 c.in-Err.ensures.err
