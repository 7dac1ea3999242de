use Rattle.pgp_types.proofs.Common.{rules, arith, [], ◌∷◌, refl, inl, inr, Some, ◌++◌, length-append, flat_map, All-push, length_fits, more_parts, if_err_at, wants_then, IsDimension, dimension_bytes}
use Rattle.pgp_types.proofs.ArrayWrites.{dimensions_length}
use Rattle.pgp_types.proofs.array_writing.put_dimensions.Goals as goal

pub loop-dimension-preserved : goal.loop-dimension-preserved
loop-dimension-preserved g c =
    let i = c.loop-dimension.invariant in
    let fits : IsDimension c.in-Some.dimension = search rules in (
      omega (arith, length-append c.loop-dimension.yielded (c.in-Some.dimension ∷ [])),
      omega arith,
      All-push IsDimension c.loop-dimension.yielded c.in-Some.dimension i.2 fits,
      more_parts dimension_bytes (g.B.Buffer.held c.args.buf.now) _ _ c.loop-dimension.yielded c.in-Some.dimension i.3 c.in_ok-put_dimension.ensures.ok,
    )

pub returns-clause-ok : goal.returns-clause-ok
returns-clause-ok g c =
    let i = c.loop-dimension.invariant in
    (c.loop-dimension.yielded, search rules, i.2, i.0, length_fits _ (omega arith), i.3)

pub returns-then-count-eq2147483647-clause-cause : goal.returns-then-count-eq2147483647-clause-cause
returns-then-count-eq2147483647-clause-cause g c =
    inr (record { before = c.loop-dimension.yielded; last = c.in-Some.dimension; received = search rules; full = omega arith }, refl)

pub returns-in_err-put_dimension-clause-cause : goal.returns-in_err-put_dimension-clause-cause
returns-in_err-put_dimension-clause-cause g c =
    let i = c.loop-dimension.invariant in
    let memory = c.in_err-put_dimension.ensures.cause in
    if_err_at _ _ _ c.from_residual.ensures.1
    (inl (
      memory.0,
      (
        c.loop-dimension.yielded ++ c.in-Some.dimension ∷ [],
        inr (record { before = c.loop-dimension.yielded; next = Some c.in-Some.dimension; received = search rules; are = refl }),
        wants_then (g.B.Buffer.held c.args.buf.now) _ (flat_map dimension_bytes c.loop-dimension.yielded) 8 _ i.3 (omega (arith, dimensions_length c.loop-dimension.yielded, length-append c.loop-dimension.yielded (c.in-Some.dimension ∷ []))) memory.1,
      ),
    ))
