use Rattle.for_c.proofs.Common.{rules, sym, ap, subst, ◌∙◌, length, inl, inr, Wants, WantsMemory, ◌⊕◌, if_err_at}
use Rattle.for_c.proofs.Items.{items_none, items_joined, items_refused, items_want}
use Rattle.for_c.proofs.list_writing.put_items.Goals as goal

pub returns-in_err-put-clause-cause : goal.returns-in_err-put-clause-cause
returns-in_err-put-clause-cause g c =
    let of = g.T.Written.meaning in
    let item = g.T.Written.item in
    let x = c.item-item.result in
    let is = c.item-item.is in
    let e = c.in_err-put.field-0.0 in
    let lacks = g.B.Buffer.Lacks in
    let held = g.B.Buffer.held c.loop-item.buf in
    if_err_at c.from_residual.result _ _ c.from_residual.ensures.1
    (elim c.in_err-put.ensures.cause [
      | inl memory ↦
          inl (items_want of item.written c.args.items.now c.loop-item.item-index x (g.B.Buffer.held c.args.buf.now) _ e (search rules) c.loop-item.invariant.1
          (subst (λ y. WantsMemory (Wants lacks held (length (item.written (of y)))) e) is memory))
      | inr refused ↦ inr (items_refused of item.cause c.args.items.now c.loop-item.item-index x _ (search rules) c.loop-item.invariant.0 (sym (ap (λ y. item.cause (of y)) is) ∙ refused))
    ])

pub loop-item-preserved : goal.loop-item-preserved
loop-item-preserved g c =
    let of = g.T.Written.meaning in
    let item = g.T.Written.item in
    let x = c.item-item.result in
    let is = c.item-item.is in
    let held = g.B.Buffer.held c.loop-item.buf in
    let i = c.loop-item.invariant in
    let k = c.in_ok-put.ensures.ok in (
      items_none of item.cause c.args.items.now c.loop-item.item-index x (search rules) i.0 (sym (ap (λ y. item.cause (of y)) is) ∙ k.0),
      items_joined of item.written c.args.items.now c.loop-item.item-index x (g.B.Buffer.held c.args.buf.now) _ _ (search rules) i.1 (k.1 ∙ ap (λ y. held ⊕ item.written (of y)) is),
    )
