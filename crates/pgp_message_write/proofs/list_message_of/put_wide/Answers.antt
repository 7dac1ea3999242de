use Rattle.pgp_message_write.proofs.Common.{rules, arith, [], ◌∷◌, ◌++◌, length, refl, inl, inr, Some, sym, ap, ◌∙◌, length-append, flat_map, ◌⊕◌, int32, uint32, length_cause, either_first, either_none, length_fits, length_past, memory_more, if_err_at, filled4, more_twice, nothing_more, sized4, length-int32, joined, parts_cause, wide_list}
use Rattle.std.specs.Prelude.{pos}
use Rattle.pgp_message_write.proofs.GivenLists.{more_put, more_refused, wide_number, wide_refused}
use Rattle.pgp_message_write.proofs.list_message_of.put_wide.Goals as goal

pub loop-item-init : goal.loop-item-init
loop-item-init g c = (refl, omega arith, (refl, c.in_ok-put_u32.ensures.ok ∙ sym (nothing_more (g.B.Buffer.held c.args.buf.now ⊕ uint32 0))))

pub overflow_add-count : goal.overflow_add-count
overflow_add-count g c = let i = c.loop-item.invariant in record { fits = omega (arith, i.1) }

pub loop-item-preserved : goal.loop-item-preserved
loop-item-preserved g c =
    let i = c.loop-item.invariant in
    (omega (arith, length-append c.loop-item.yielded (c.in-Some.item ∷ [])), omega (arith, i.1), more_put g.T.Item.parts c.loop-item.yielded c.in-Some.item (g.B.Buffer.held c.args.buf.now ⊕ uint32 0) _ _ i.2 c.in_ok-put.ensures.ok)

pub patch_u32-requires : goal.patch_u32-requires
patch_u32-requires g c = omega (arith, sized4 (g.B.Buffer.held c.args.buf.now) _ _ _ refl c.loop-item.invariant.2.1)

pub returns-clause-ok : goal.returns-clause-ok
returns-clause-ok g c =
    let i = c.loop-item.invariant in
    let xs = c.loop-item.yielded in
    let items = joined (flat_map g.T.Item.parts xs) in (
      xs,
      search rules,
      length_fits (length xs) (omega (arith, i.0, i.1)),
      (
        i.2.0,
        filled4 (g.B.Buffer.held c.args.buf.now) items (g.B.Buffer.held c.args.buf.now ⊕ uint32 0) _ _ _ _ (length xs) refl i.2.1 c.len-base.ensures.value i.0 c.patch_u32.ensures
            ∙ (ap (λ z. g.B.Buffer.held c.args.buf.now ⊕ z ⊕ items) (sym (wide_number (length xs) (omega (arith, i.0, i.1)))) ∙ more_twice (g.B.Buffer.held c.args.buf.now) (int32 (pos (length xs))) items),
      ),
    )

pub returns-then-count-eq2147483647-clause-cause : goal.returns-then-count-eq2147483647-clause-cause
returns-then-count-eq2147483647-clause-cause g c =
    let i = c.loop-item.invariant in
    let xs = c.loop-item.yielded in
    let ys = xs ++ c.in-Some.item ∷ [] in (
      ys,
      inr (record { before = xs; next = Some c.in-Some.item; received = search rules; none = either_none (length_cause (length xs)) (parts_cause (wide_list g.T.Item.parts xs)) (length_fits (length xs) (omega (arith, i.0, i.1))) i.2.0; are = refl }),
      inr (either_first (length_cause (length ys)) (parts_cause (wide_list g.T.Item.parts ys)) _ (length_past (length ys) (omega (arith, i.0, length-append xs (c.in-Some.item ∷ []))))),
    )

pub returns-in_err-put_u32-clause-cause : goal.returns-in_err-put_u32-clause-cause
returns-in_err-put_u32-clause-cause g c =
    if_err_at _ _ _ c.from_residual.ensures.1 ([], inl refl, inl (memory_more (g.B.Buffer.held c.args.buf.now) 4 _ _ (omega (arith, length-append (int32 (pos 0)) [], length-int32 (pos 0))) c.in_err-put_u32.ensures.cause))

pub returns-in_err-put-clause-cause : goal.returns-in_err-put-clause-cause
returns-in_err-put-clause-cause g c =
    let i = c.loop-item.invariant in
    let xs = c.loop-item.yielded in
    let ys = xs ++ c.in-Some.item ∷ [] in
    if_err_at _ _ _ c.from_residual-in_err-put.ensures.1 (
      ys,
      inr (record { before = xs; next = Some c.in-Some.item; received = search rules; none = either_none (length_cause (length xs)) (parts_cause (wide_list g.T.Item.parts xs)) (length_fits (length xs) (omega (arith, i.0, i.1))) i.2.0; are = refl }),
      wide_refused g.T.Item.parts ys (g.B.Buffer.held c.args.buf.now) _ (length_fits (length ys) (omega (arith, i.0, i.1, length-append xs (c.in-Some.item ∷ []))))
          (more_refused g.T.Item.parts xs c.in-Some.item (g.B.Buffer.held c.args.buf.now ⊕ uint32 0) _ _ i.2 c.in_err-put.ensures.cause),
    )
