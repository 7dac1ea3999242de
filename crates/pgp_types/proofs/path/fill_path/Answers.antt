use Rattle.pgp_types.proofs.Common.{rules, ◌+◌, ◌≤◌, ◌++◌, Some, ◌≡◌, [], ◌∷◌, map, length, refl, sym, ap, ◌∙◌, inl, inr, arith, length-append, flat_map, length-map, map-append, ◌⊕◌, uint32, length-uint32, wants_more, wants_then, sized4, more_twice, more_parts, if_err_at, on_err, front_left, point_bytes, path_bytes, path_of, point_at_xy, bool_bytes, flat_more}
use Rattle.pgp_types.proofs.Appending.{counted_up4, front_thrice, front_thrice_then, only_memory}
use Rattle.pgp_types.proofs.PathLemmas.{points_fit, points_pass}
use Rattle.pgp_types.proofs.path.fill_path.Goals as goal

pub returns-then-count-eq-MOST_ITEMS-clause-err : goal.returns-then-count-eq-MOST_ITEMS-clause-err
returns-then-count-eq-MOST_ITEMS-clause-err g c = front_thrice (g.B.Buffer.held c.args.buf.now) _ _ _ _ c.loop-x.invariant.2

pub returns-then-count-eq-MOST_ITEMS-clause-cause : goal.returns-then-count-eq-MOST_ITEMS-clause-cause
returns-then-count-eq-MOST_ITEMS-clause-cause g c =
    let i = c.loop-x.invariant in
    inr (record {
      before = c.loop-x.yielded;
      last = (c.in-Some.x, c.in-Some.y);
      reached = search rules;
      fits = points_fit c.args.closed c.loop-x.yielded (omega arith);
      passes = points_pass c.args.closed c.loop-x.yielded (c.in-Some.x, c.in-Some.y) (omega arith);
    })

pub returns-in_err-point_to_sql-clause-err : goal.returns-in_err-point_to_sql-clause-err
returns-in_err-point_to_sql-clause-err g c =
    on_err _ _ (front_thrice_then (g.B.Buffer.held c.args.buf.now) _ _ _ _ _ c.loop-x.invariant.2 (front_left _ _ c.in_err-point_to_sql.ensures.1))

pub returns-in_err-point_to_sql-clause-cause : goal.returns-in_err-point_to_sql-clause-cause
returns-in_err-point_to_sql-clause-cause g c =
    let memory = only_memory _ c.in_err-point_to_sql.ensures.0 in
    let old = g.B.Buffer.held c.args.buf.now in
    let flag = bool_bytes c.args.closed in
    let front = flat_map point_bytes (map point_at_xy c.loop-x.yielded) in
    let next = point_bytes (point_at_xy (c.in-Some.x, c.in-Some.y)) in
    let items = c.loop-x.yielded ++ (c.in-Some.x, c.in-Some.y) ∷ [] in
    let all : length (flat_map point_bytes (map point_at_xy items)) ≡ length front + length next = ap (λ ps. length (flat_map point_bytes ps)) (map-append point_at_xy c.loop-x.yielded ((c.in-Some.x, c.in-Some.y) ∷ [])) ∙ flat_more point_bytes (map point_at_xy c.loop-x.yielded) (point_at_xy (c.in-Some.x, c.in-Some.y)) in
    let count = uint32 (length (map point_at_xy items)) in
    let whole : length flag + (4 + (length front + length next)) ≤ length (path_bytes (path_of c.args.closed items)) = omega (arith, all, length-uint32 (length (map point_at_xy items)), length-append flag (count ++ flat_map point_bytes (map point_at_xy items)), length-append count (flat_map point_bytes (map point_at_xy items))) in
    if_err_at _ _ _ c.from_residual-in_err-point_to_sql.ensures.1
    (inl (
      memory.0,
      (
        items,
        inr (record { before = c.loop-x.yielded; next = Some (c.in-Some.x, c.in-Some.y); received = search rules; are = refl }),
        wants_then old (old ⊕ flag) flag _ _ refl whole
            (wants_then (old ⊕ flag) (old ⊕ flag ⊕ uint32 0) (uint32 0) (length front + length next) _ refl (omega (arith, length-uint32 0))
            (wants_then (old ⊕ flag ⊕ uint32 0) _ front _ _ c.loop-x.invariant.2 (omega arith) memory.1)),
      ),
    ))

pub loop-x-preserved : goal.loop-x-preserved
loop-x-preserved g c =
    let i = c.loop-x.invariant in
    let all = more_parts point_bytes (g.B.Buffer.held c.args.buf.now ⊕ bool_bytes c.args.closed ⊕ uint32 0) _ _ (map point_at_xy c.loop-x.yielded) (point_at_xy (c.in-Some.x, c.in-Some.y)) i.2 c.in_ok-point_to_sql.ensures.1 in
    (omega (arith, length-append c.loop-x.yielded ((c.in-Some.x, c.in-Some.y) ∷ [])), omega arith, all ∙ ap (λ ps. g.B.Buffer.held c.args.buf.now ⊕ bool_bytes c.args.closed ⊕ uint32 0 ⊕ flat_map point_bytes ps) (sym (map-append point_at_xy c.loop-x.yielded ((c.in-Some.x, c.in-Some.y) ∷ []))))

pub patch_u32-requires : goal.patch_u32-requires
patch_u32-requires g c =
    let base = c.len-base.ensures.value ∙ ap (λ h. length h.bytes) c.in_ok-bool_to_sql.ensures.1 in
    omega (arith, base, sized4 (g.B.Buffer.held c.args.buf.now ⊕ bool_bytes c.args.closed) _ _ _ refl c.loop-x.invariant.2)

pub returns-clause-ok : goal.returns-clause-ok
returns-clause-ok g c =
    let i = c.loop-x.invariant in
    let base = c.len-base.ensures.value ∙ ap (λ h. length h.bytes) c.in_ok-bool_to_sql.ensures.1 in
    let n : c.loop-x.count ≡ length (map point_at_xy c.loop-x.yielded) = omega (arith, i.0, length-map c.loop-x.yielded point_at_xy) in
    record {
      items = c.loop-x.yielded;
      all = search rules;
      fits = points_fit c.args.closed c.loop-x.yielded (omega arith);
      appended = counted_up4 (g.B.Buffer.held c.args.buf.now ⊕ bool_bytes c.args.closed) (flat_map point_bytes (map point_at_xy c.loop-x.yielded)) _ _ _ _ _ i.2 base n c.patch_u32.ensures ∙ more_twice (g.B.Buffer.held c.args.buf.now) (bool_bytes c.args.closed) _;
    }

pub returns-in_err-bool_to_sql-clause-cause : goal.returns-in_err-bool_to_sql-clause-cause
returns-in_err-bool_to_sql-clause-cause g c =
    let memory = only_memory _ c.in_err-bool_to_sql.ensures.0 in
    let flag = bool_bytes c.args.closed in
    if_err_at _ _ _ c.from_residual.ensures.1 (inl (memory.0, ([], inl refl, wants_more (g.B.Buffer.held c.args.buf.now) _ _ (omega (arith, length-append flag (uint32 0 ++ []))) memory.1)))

pub returns-in_err-put_u32-clause-cause : goal.returns-in_err-put_u32-clause-cause
returns-in_err-put_u32-clause-cause g c =
    let memory = c.in_err-put_u32.ensures.cause in
    let flag = bool_bytes c.args.closed in
    if_err_at _ _ _ c.from_residual-in_err-put_u32.ensures.1
    (inl (memory.0, ([], inl refl, wants_then (g.B.Buffer.held c.args.buf.now) _ flag 4 _ c.in_ok-bool_to_sql.ensures.1 (omega (arith, length-append flag (uint32 0 ++ []), length-append (uint32 0) [], length-uint32 0)) memory.1)))
