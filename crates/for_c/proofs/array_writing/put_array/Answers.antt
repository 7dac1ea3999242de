use Rattle.for_c.proofs.Common.{◌≡◌, None, arith, inl, inr, map, ap, ◌∙◌, length, length-append, length-map, length_cause, ◌⊕◌, either_first, either_none, either_then, memory_more, memory_then, body_of, dimension_of, elements_cause, flag_in}
use Rattle.for_c.specs.ArrayWriting.{head_of}
use Rattle.for_c.proofs.ArrayShapes.{array_written, head_size}
use Rattle.for_c.proofs.Elements.{then_more}
use Rattle.for_c.proofs.Handed.{err_then, ok_then}
use Rattle.for_c.proofs.array_writing.put_array.Goals as goal

pub returns-in-Ok-clause-ok : goal.returns-in-Ok-clause-ok
returns-in-Ok-clause-ok g c =
    let old = g.B.Buffer.held c.args.buf.now in
    let t = c.args.element_type in
    let ds = c.args.dimensions.now in
    let vs = c.args.elements.now in
    let k = c.in-Ok.ensures.ok in
    let few : length_cause (length (map dimension_of ds)) ≡ None = ap length_cause (length-map ds dimension_of) ∙ k.0 in
    ok_then _ _ c.put_body.result c.put_body.ensures.ok (λ behind. (
      either_none (length_cause (length (map dimension_of ds))) (elements_cause vs) few behind.0,
      then_more old _ _ (head_of (length ds) (flag_in vs) t) (body_of ds vs) (k.1 ∙ ap (λ f. old ⊕ head_of (length ds) f t) c.flag.ensures) behind.1 ∙ ap (λ l. old ⊕ l) (array_written t ds vs),
    ))

pub returns-in-Ok-clause-cause : goal.returns-in-Ok-clause-cause
returns-in-Ok-clause-cause g c =
    let old = g.B.Buffer.held c.args.buf.now in
    let t = c.args.element_type in
    let ds = c.args.dimensions.now in
    let vs = c.args.elements.now in
    let k = c.in-Ok.ensures.ok in
    let head = head_of (length ds) (flag_in vs) t in
    let few : length_cause (length (map dimension_of ds)) ≡ None = ap length_cause (length-map ds dimension_of) ∙ k.0 in
    err_then _ _ c.put_body.result c.put_body.ensures.cause (λ e why. elim why [
      | inl memory ↦
          inl (memory_then old _ head _ _ _ (k.1 ∙ ap (λ f. old ⊕ head_of (length ds) f t) c.flag.ensures) (omega (arith, ap length (array_written t ds vs), length-append head (body_of ds vs))) memory)
      | inr some ↦ inr (either_then (length_cause (length (map dimension_of ds))) (elements_cause vs) few ∙ some)
    ])

pub returns-in-Err-clause-cause : goal.returns-in-Err-clause-cause
returns-in-Err-clause-cause g c =
    let t = c.args.element_type in
    let ds = c.args.dimensions.now in
    let vs = c.args.elements.now in
    let head = head_of (length ds) (flag_in vs) t in
    elim c.in-Err.ensures.cause [
      | inl memory ↦ inl (memory_more _ 12 _ _ (omega (arith, ap length (array_written t ds vs), length-append head (body_of ds vs), head_size (length ds) (flag_in vs) t)) memory)
      | inr some ↦ inr (either_first (length_cause (length (map dimension_of ds))) (elements_cause vs) _ (ap length_cause (length-map ds dimension_of) ∙ some))
    ]
