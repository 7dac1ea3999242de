use Rattle.for_c.proofs.Common.{arith, inl, inr, map, sym, ◌∙◌, length-append, flat_map, memory_more, memory_then, dimension_bytes, dimension_of, elements_of}
use Rattle.for_c.proofs.ArrayShapes.{none_dimensions}
use Rattle.for_c.proofs.Handed.{err_then}
use Rattle.for_c.proofs.array_writing.put_body.Goals as goal

pub returns-in-Ok-clause-cause : goal.returns-in-Ok-clause-cause
returns-in-Ok-clause-cause g c =
    let dims = flat_map dimension_bytes (map dimension_of c.args.dimensions.now) in
    err_then _ _ c.put_items-in-Ok.result c.put_items-in-Ok.ensures.cause (λ e why. elim why [
      | inl memory ↦ inl (memory_then (g.B.Buffer.held c.args.buf.now) _ dims _ _ _ c.in-Ok.ensures.ok.1 (omega (arith, length-append dims (elements_of c.args.elements.now))) memory)
      | inr some ↦ inr some
    ])

pub returns-in-Err-clause-cause : goal.returns-in-Err-clause-cause
returns-in-Err-clause-cause g c =
    let dims = flat_map dimension_bytes (map dimension_of c.args.dimensions.now) in
    elim c.in-Err.ensures.cause [
      | inl memory ↦ inl (memory_more _ _ _ _ (omega (arith, length-append dims (elements_of c.args.elements.now))) memory)
      | inr some ↦ absurd (let e = sym (none_dimensions (map dimension_of c.args.dimensions.now)) ∙ some in cc)
    ]
