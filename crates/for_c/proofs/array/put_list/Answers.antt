use Rattle.for_c.proofs.Common.{arith, inl, inr, length-append, memory_more, memory_then, elements_of, head_of}
use Rattle.for_c.proofs.Elements.{elements_large, head_length}
use Rattle.for_c.proofs.Handed.{err_then}
use Rattle.for_c.proofs.array.put_list.Goals as goal

pub returns-in-Err-clause-cause : goal.returns-in-Err-clause-cause
returns-in-Err-clause-cause g c =
    let head = head_of c.args.element_type c.args.elements.now in
    elim c.in-Err.ensures.cause [
      | inl memory ↦ inl (memory_more _ 20 _ _ (omega (arith, head_length c.args.element_type c.args.elements.now, length-append head (elements_of c.args.elements.now))) memory)
      | inr many ↦ inr (many.0, inl many.1)
    ]

pub returns-in-Ok-clause-cause : goal.returns-in-Ok-clause-cause
returns-in-Ok-clause-cause g c =
    let head = head_of c.args.element_type c.args.elements.now in
    err_then _ _ c.put_items.result c.put_items.ensures.cause (λ e why. elim why [
      | inl memory ↦ inl (memory_then (g.B.Buffer.held c.args.buf.now) _ head _ _ _ c.in-Ok.ensures.ok.1 (omega (arith, length-append head (elements_of c.args.elements.now))) memory)
      | inr some ↦ inr (elements_large c.args.elements.now _ some, inr some)
    ])
