use Rattle.for_c.proofs.Common.{◌≤◌, map, take, Product, dimension_of}
use Rattle.for_c.proofs.array_writing.product.Given as goal

abbrev pub invariant-loop-dimension : goal.invariant-loop-dimension
invariant-loop-dimension l = Product 1 (map dimension_of (take l.dimension-index l.dimensions)) l.product × (l.product ≤ 2147483647)
