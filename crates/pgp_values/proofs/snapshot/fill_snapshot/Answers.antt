use Rattle.pgp_values.proofs.Common.{rules, ◌+◌, ◌≤◌, ◌++◌, Some, ◌≡◌, [], ◌∷◌, length, refl, ◌∙◌, inl, inr, arith, length-append, flat_map, ◌⊕◌, uint32, uint64, length-uint32, wants_more, wants_then, sized4, more_twice, more_parts, if_err_at, front_left, flat_more, snapshot_bytes, snapshot_of, bounds_bytes, counted_up4, front_thrice, front_thrice_then, only_memory}
use Rattle.pgp_values.proofs.SnapshotLemmas.{ids_fit, ids_pass}
use Rattle.pgp_values.proofs.snapshot.fill_snapshot.Goals as goal

pub returns-then-count-eq-MOST_ITEMS-clause-err : goal.returns-then-count-eq-MOST_ITEMS-clause-err
returns-then-count-eq-MOST_ITEMS-clause-err g c = front_thrice (g.B.Buffer.held c.args.buf.now) _ _ _ _ c.loop-id.invariant.2

pub returns-then-count-eq-MOST_ITEMS-clause-cause : goal.returns-then-count-eq-MOST_ITEMS-clause-cause
returns-then-count-eq-MOST_ITEMS-clause-cause g c =
    let i = c.loop-id.invariant in
    inr (record {
      before = c.loop-id.yielded;
      last = c.in-Some.id;
      reached = search rules;
      fits = ids_fit c.args.xmin c.args.xmax c.loop-id.yielded (omega arith);
      passes = ids_pass c.args.xmin c.args.xmax c.loop-id.yielded c.in-Some.id (omega arith);
    })

pub returns-in-Err-clause-err : goal.returns-in-Err-clause-err
returns-in-Err-clause-err g c =
    front_thrice_then (g.B.Buffer.held c.args.buf.now) _ _ _ _ _ c.loop-id.invariant.2 (front_left _ _ c.in-Err.ensures.1)

pub returns-in-Err-clause-cause : goal.returns-in-Err-clause-cause
returns-in-Err-clause-cause g c =
    let memory = only_memory _ c.in-Err.ensures.0 in
    let old = g.B.Buffer.held c.args.buf.now in
    let bounds = bounds_bytes c.args.xmin c.args.xmax in
    let front = flat_map uint64 c.loop-id.yielded in
    let next = uint64 c.in-Some.id in
    let items = c.loop-id.yielded ++ c.in-Some.id ∷ [] in
    let all : length (flat_map uint64 items) ≡ length front + length next = flat_more uint64 c.loop-id.yielded c.in-Some.id in
    let count = uint32 (length items) in
    let whole : 4 + (length bounds + (length front + length next)) ≤ length (snapshot_bytes (snapshot_of c.args.xmin c.args.xmax items)) = omega (arith, all, length-uint32 (length items), length-append count (bounds ++ flat_map uint64 items), length-append bounds (flat_map uint64 items)) in
    inl (
      memory.0,
      (
        items,
        inr (record { before = c.loop-id.yielded; next = Some c.in-Some.id; received = search rules; are = refl }),
        wants_then old (old ⊕ uint32 0) (uint32 0) (length bounds + (length front + length next)) _ refl (omega (arith, length-uint32 0))
            (wants_then (old ⊕ uint32 0) (old ⊕ uint32 0 ⊕ bounds) bounds (length front + length next) _ refl (omega arith)
            (wants_then (old ⊕ uint32 0 ⊕ bounds) _ front _ _ c.loop-id.invariant.2 (omega arith) memory.1)),
      ),
    )

pub loop-id-preserved : goal.loop-id-preserved
loop-id-preserved g c =
    let i = c.loop-id.invariant in
    let all = more_parts uint64 (g.B.Buffer.held c.args.buf.now ⊕ uint32 0 ⊕ bounds_bytes c.args.xmin c.args.xmax) _ _ c.loop-id.yielded c.in-Some.id i.2 c.in-Ok.ensures.1 in
    (omega (arith, length-append c.loop-id.yielded (c.in-Some.id ∷ [])), omega arith, all)

pub patch_u32-requires : goal.patch_u32-requires
patch_u32-requires g c =
    let joined = c.loop-id.invariant.2 ∙ more_twice (g.B.Buffer.held c.args.buf.now ⊕ uint32 0) (bounds_bytes c.args.xmin c.args.xmax) (flat_map uint64 c.loop-id.yielded) in
    omega (arith, c.len-base.ensures.value, sized4 (g.B.Buffer.held c.args.buf.now) _ _ _ refl joined)

pub returns-clause-ok : goal.returns-clause-ok
returns-clause-ok g c =
    let i = c.loop-id.invariant in
    let joined = i.2 ∙ more_twice (g.B.Buffer.held c.args.buf.now ⊕ uint32 0) (bounds_bytes c.args.xmin c.args.xmax) (flat_map uint64 c.loop-id.yielded) in
    record {
      items = c.loop-id.yielded;
      all = search rules;
      fits = ids_fit c.args.xmin c.args.xmax c.loop-id.yielded (omega arith);
      appended = counted_up4 (g.B.Buffer.held c.args.buf.now) (bounds_bytes c.args.xmin c.args.xmax ++ flat_map uint64 c.loop-id.yielded) _ _ _ _ _ joined c.len-base.ensures.value i.0 c.patch_u32.ensures;
    }

pub returns-in_err-put_u32-clause-cause : goal.returns-in_err-put_u32-clause-cause
returns-in_err-put_u32-clause-cause g c =
    let memory = c.in_err-put_u32.ensures.cause in
    let bounds = bounds_bytes c.args.xmin c.args.xmax in
    if_err_at _ _ _ c.from_residual.ensures.1 (inl (memory.0, ([], inl refl, wants_more (g.B.Buffer.held c.args.buf.now) 4 _ (omega (arith, length-append (uint32 0) (bounds ++ []), length-uint32 0)) memory.1)))

pub returns-in_err-put_bounds-clause-cause : goal.returns-in_err-put_bounds-clause-cause
returns-in_err-put_bounds-clause-cause g c =
    let memory = only_memory _ c.in_err-put_bounds.ensures.0 in
    let bounds = bounds_bytes c.args.xmin c.args.xmax in
    if_err_at _ _ _ c.from_residual-in_err-put_bounds.ensures.1
    (inl (memory.0, ([], inl refl, wants_then (g.B.Buffer.held c.args.buf.now) _ (uint32 0) (length bounds) _ c.in_ok-put_u32.ensures.ok (omega (arith, length-append (uint32 0) (bounds ++ []), length-append bounds [], length-uint32 0)) memory.1)))
