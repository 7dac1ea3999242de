use Rattle.pgp_types.proofs.Common.{rules, ap, inl, inr, arith, IsBytes}
use Rattle.pgp_types.proofs.ArrayLemmas.{reads_err, head_is, front_of, split_length, split_is, elements_is, each_walk, array_read}
use Rattle.pgp_types.proofs.array.array_from_sql.Goals as goal

pub returns-in_err-count : goal.returns-in_err-count
returns-in_err-count c =
    let small : IsBytes c.args.buf.now = λ i. omega (arith, c.type_inv.buf i) in
    reads_err c.args.buf.now _ _ c.from_residual.ensures.1 (inl (head_is.refused c.args.buf.now _ small c.in_err-count.ensures))

pub returns-in_err-product : goal.returns-in_err-product
returns-in_err-product c =
    let small : IsBytes c.args.buf.now = λ i. omega (arith, c.type_inv.buf i) in
    let k = c.in_err-product.ensures.cause in
    reads_err c.args.buf.now _ _ c.from_residual-in_err-product.ensures.1
    (inr (front_of c.args.buf.now c.in_ok-count.count c.in_ok-count.flag c.in_ok-count.element_type c.in_ok-count.behind.now small c.in_ok-count.ensures k.0 k.1 k.2 k.3, k.4, k.5))

pub split_at-requires : goal.split_at-requires
split_at-requires c =
    let k = c.in_ok-product.ensures.ok in
    omega (arith, split_length _ _ _ _ k.1)

pub invariant_of-result : goal.invariant_of-result
invariant_of-result c =
    let k = c.in_ok-product.ensures.ok in
    let cut = split_is _ _ _ _ _ _ k.1 (search rules) c.split_at.ensures.front in
    ap (λ w. w.end) (each_walk k.0 c.in_ok-count.count _ k.1.in_range k.2 cut)

pub returns : goal.returns
returns c =
    let small : IsBytes c.args.buf.now = λ i. omega (arith, c.type_inv.buf i) in
    let k = c.in_ok-product.ensures.ok in
    let cut = split_is _ _ _ _ _ _ k.1 (search rules) c.split_at.ensures.front in
    array_read c.args.buf.now c.in_ok-count.count c.in_ok-count.flag c.in_ok-count.element_type c.in_ok-count.behind.now small c.in_ok-count.ensures k.0 _ _ k.1 k.2 _ cut
    c.elements_of.result (elements_is k.0 c.in_ok-count.count c.in_ok-product.product c.elements_of.result k.2 c.elements_of.ensures.none c.elements_of.ensures.some)
