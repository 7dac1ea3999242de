use Rattle.pgp_message_write.proofs.Common.{rules, arith, [], ◌∷◌, ◌++◌, length, refl, inl, inr, Some, sym, ◌∙◌, length-append, flat_map, ◌⊕◌, uint16, count_cause, count_fits, count_past, either_first, either_none, memory_more, if_err_at, filled2, length-uint16, more_twice, nothing_more, sized2, joined, parts_cause, counted_list}
use Rattle.pgp_message_write.proofs.GivenLists.{counted_refused, more_put, more_refused}
use Rattle.pgp_message_write.proofs.list_message_of.put_counted.Goals as goal

pub loop-item-init : goal.loop-item-init
loop-item-init g c = (refl, (refl, c.in_ok-put_u16.ensures.ok ∙ sym (nothing_more (g.B.Buffer.held c.args.buf.now ⊕ uint16 0))))

pub loop-item-preserved : goal.loop-item-preserved
loop-item-preserved g c =
    let i = c.loop-item.invariant in
    (omega (arith, length-append c.loop-item.yielded (c.in-Some.item ∷ [])), more_put g.T.Item.parts c.loop-item.yielded c.in-Some.item (g.B.Buffer.held c.args.buf.now ⊕ uint16 0) _ _ i.1 c.in_ok-put.ensures.ok)

pub patch_u16-requires : goal.patch_u16-requires
patch_u16-requires g c = omega (arith, sized2 (g.B.Buffer.held c.args.buf.now) _ _ _ refl c.loop-item.invariant.1.1)

pub returns-clause-ok : goal.returns-clause-ok
returns-clause-ok g c =
    let i = c.loop-item.invariant in
    let xs = c.loop-item.yielded in
    let items = joined (flat_map g.T.Item.parts xs) in (
      xs,
      search rules,
      count_fits (length xs) (omega arith),
      (
        i.1.0,
        filled2 (g.B.Buffer.held c.args.buf.now) items (g.B.Buffer.held c.args.buf.now ⊕ uint16 0) _ _ _ _ (length xs) refl i.1.1 c.len-base.ensures.value i.0 c.patch_u16.ensures
            ∙ more_twice (g.B.Buffer.held c.args.buf.now) (uint16 (length xs)) items,
      ),
    )

pub returns-then-count-clause-cause : goal.returns-then-count-clause-cause
returns-then-count-clause-cause g c =
    let xs = c.loop-item.yielded in
    let ys = xs ++ c.in-Some.item ∷ [] in (
      ys,
      inr (record { before = xs; next = Some c.in-Some.item; received = search rules; none = either_none (count_cause (length xs)) (parts_cause (counted_list g.T.Item.parts xs)) (count_fits (length xs) (omega arith)) c.loop-item.invariant.1.0; are = refl }),
      inr (either_first (count_cause (length ys)) (parts_cause (counted_list g.T.Item.parts ys)) _ (count_past (length ys) (omega (arith, length-append xs (c.in-Some.item ∷ []))))),
    )

pub returns-in_err-put_u16-clause-cause : goal.returns-in_err-put_u16-clause-cause
returns-in_err-put_u16-clause-cause g c =
    if_err_at _ _ _ c.from_residual.ensures.1 ([], inl refl, inl (memory_more (g.B.Buffer.held c.args.buf.now) 2 _ _ (omega (arith, length-append (uint16 0) [], length-uint16 0)) c.in_err-put_u16.ensures.cause))

pub returns-in_err-put-clause-cause : goal.returns-in_err-put-clause-cause
returns-in_err-put-clause-cause g c =
    let i = c.loop-item.invariant in
    let xs = c.loop-item.yielded in
    let ys = xs ++ c.in-Some.item ∷ [] in
    if_err_at _ _ _ c.from_residual-in_err-put.ensures.1 (
      ys,
      inr (record { before = xs; next = Some c.in-Some.item; received = search rules; none = either_none (count_cause (length xs)) (parts_cause (counted_list g.T.Item.parts xs)) (count_fits (length xs) (omega arith)) i.1.0; are = refl }),
      counted_refused g.T.Item.parts ys (g.B.Buffer.held c.args.buf.now) _ (count_fits (length ys) (omega (arith, length-append xs (c.in-Some.item ∷ []))))
          (more_refused g.T.Item.parts xs c.in-Some.item (g.B.Buffer.held c.args.buf.now ⊕ uint16 0) _ _ i.1 c.in_err-put.ensures.cause),
    )
