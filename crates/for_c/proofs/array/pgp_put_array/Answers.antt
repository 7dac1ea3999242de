use Rattle.for_c.proofs.Common.{rules, ap, ◌++◌, inl, inr, ◌∙◌, Some, number_of, array_bytes, elements_of, head_of, list_of}
use Rattle.for_c.proofs.Elements.{is_array, list_bytes}
use Rattle.for_c.proofs.Sending.{wrote, lacked}
use Rattle.for_c.proofs.array.pgp_put_array.Goals as goal

pub returns-in-Ok-clause-wrote : goal.returns-in-Ok-clause-wrote
returns-in-Ok-clause-wrote c z =
    let t = c.args.element_type in
    let vs = c.args.elements.now in
    let k = c.in-Ok.ensures.ok in (
      is_array t vs (search rules) k.0,
      wrote (array_bytes (list_of t vs)) (head_of t vs ++ elements_of vs) (list_bytes t vs) c.new-window.result c.put_list.new.buf c.args.out.now _ c.new-window.ensures k.2 _ (search rules) _ c.sent.ensures.reported,
    )

pub returns-in-Err-clause-refused : goal.returns-in-Err-clause-refused
returns-in-Err-clause-refused c z =
    let t = c.args.element_type in
    let vs = c.args.elements.now in (
      c.refused.ensures.reported,
      elim c.in-Err.ensures.cause [
        | inl memory ↦ inr (lacked (array_bytes (list_of t vs)) (head_of t vs ++ elements_of vs) (list_bytes t vs) c.new-window.result c.args.out.now _ c.new-window.ensures c.in-Err.e _ _ (inl memory) c.refused.ensures.code c.refused.ensures.reported)
        | inr (large, why) ↦ inl (c.refused.ensures.code ∙ ap number_of large, elim why [ inl many ↦ inl many | inr some ↦ inr (some ∙ ap (λ e. Some e) large) ])
      ],
    )
