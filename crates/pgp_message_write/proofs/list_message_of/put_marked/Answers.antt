use Rattle.pgp_message_write.proofs.Common.{rules, arith, [], ◌∷◌, ◌++◌, refl, inl, inr, None, Some, sym, length, length-append, ap, flat_map, append-nil, Yielded, if_err_map, memory_then, if_err_at, Byte, joined}
use Rattle.pgp_message_write.proofs.Lists.{joined-append, refused_before}
use Rattle.pgp_message_write.proofs.GivenLists.{marked_none, marked_put, more_put, more_refused}
use Rattle.pgp_message_write.proofs.list_message_of.put_marked.Goals as goal

pub loop-item-preserved : goal.loop-item-preserved
loop-item-preserved g c =
    more_put g.T.Item.parts c.loop-item.yielded c.in-Some.item (g.B.Buffer.held c.args.buf.now) _ _ c.loop-item.invariant c.in_ok-put.ensures.ok

pub returns-in_err-put-clause-cause : goal.returns-in_err-put-clause-cause
returns-in_err-put-clause-cause g c =
    let i = c.loop-item.invariant in
    let xs = c.loop-item.yielded in
    let ys = xs ++ c.in-Some.item ∷ [] in
    if_err_at _ _ _ c.from_residual.ensures.1 (
      ys,
      inr (record { before = xs; next = Some c.in-Some.item; received = search rules; none = marked_none g.T.Item.parts xs i.0; are = refl }),
      refused_before (flat_map g.T.Item.parts ys) (Byte 0 ∷ []) (g.B.Buffer.held c.args.buf.now) _
          (more_refused g.T.Item.parts xs c.in-Some.item (g.B.Buffer.held c.args.buf.now) _ _ i c.in_err-put.ensures.cause),
    )

pub returns-clause-ok : goal.returns-clause-ok
returns-clause-ok g c =
    marked_put g.T.Item.parts c.loop-item.yielded (Yielded g.I.IntoIterator.into_iter_gives g.I.IntoIter.Iterator.next_gives c.args.items) _ _ _ (search rules) c.loop-item.invariant c.put_u8.result c.put_u8.ensures.ok

pub returns-clause-cause : goal.returns-clause-cause
returns-clause-cause g c =
    let i = c.loop-item.invariant in
    let xs = c.loop-item.yielded in
    let items = joined (flat_map g.T.Item.parts xs) in
    if_err_map c.put_u8.result _ _ (λ e memory. (
      xs,
      inr (record { before = xs; next = None; received = search rules; none = marked_none g.T.Item.parts xs i.0; are = sym (append-nil xs) }),
      inl (memory_then (g.B.Buffer.held c.args.buf.now) _ items 1 _ e i.1 (omega (arith, ap length (joined-append (flat_map g.T.Item.parts xs) (Byte 0 ∷ [])), length-append items (0 ∷ []))) memory),
    )) c.put_u8.ensures.cause
