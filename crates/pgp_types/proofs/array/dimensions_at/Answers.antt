use Rattle.pgp_types.proofs.Common.{[], ◌∷◌, ◌++◌, arith, length-append, subst, ℕ, if_err_at, Extent}
use Rattle.pgp_types.proofs.ArrayLemmas.{extent_none, extent_small, extent_more, product_found, product_refused, next_bytes, of}
use Rattle.pgp_types.proofs.array.dimensions_at.Goals as goal

pub dimensions-init : goal.dimensions-init
dimensions-init c = ((λ i. omega (arith, c.type_inv.bytes i)), ([], extent_none c.args.bytes.now, omega arith))

pub product_at-requires : goal.product_at-requires
product_at-requires c =
    let i = c.dimensions.invariant in
    extent_small _ i.1.0 _ _ i.1.1

pub returns-in_err-product-clause-cause : goal.returns-in_err-product-clause-cause
returns-in_err-product-clause-cause c =
    let i = c.dimensions.invariant in
    if_err_at _ _ _ c.from_residual.ensures.1
    (i.1.0, c.dimensions.product, c.dimensions.rest.now, i.1.1, omega (arith, i.1.2), product_refused c.dimensions.product c.dimensions.rest.now _ i.0 c.in_err-product.ensures)

pub returns-clause-ok : goal.returns-clause-ok
returns-clause-ok c =
    let i = c.dimensions.invariant in
    (i.1.0, i.1.1, omega (arith, i.1.2))

pub dimensions-preserved : goal.dimensions-preserved
dimensions-preserved c =
    let i = c.dimensions.invariant in
    let n = product_found c.dimensions.product c.dimensions.rest.now c.in_ok-product.field-0-0 c.in_ok-product.field-0-1.now i.0 c.in_ok-product.ensures in
    let more = extent_more c.args.bytes.now i.1.0 c.dimensions.product c.dimensions.rest.now n.0 c.in_ok-product.field-0-1.now i.1.1 n.1 in (
      next_bytes c.dimensions.product c.dimensions.rest.now n.0 c.in_ok-product.field-0-1.now n.1 i.0,
      (i.1.0 ++ of n.0 ∷ [], subst (λ (q : ℕ). Extent c.args.bytes.now (i.1.0 ++ of n.0 ∷ []) q c.in_ok-product.field-0-1.now) n.2 more, omega (arith, i.1.2, length-append i.1.0 (of n.0 ∷ []))),
    )
