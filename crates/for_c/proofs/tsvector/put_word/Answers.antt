use Rattle.for_c.proofs.Common.{◌++◌, ◌∙◌, inl, inr, length, arith, length-append, flat_map, text_cause, count_cause, text, uint16, either_first, either_then, memory_more, memory_then}
use Rattle.for_c.proofs.Handed.{err_then}
use Rattle.for_c.proofs.tsvector.put_word.Goals as goal

pub returns-in-Ok-clause-cause : goal.returns-in-Ok-clause-cause
returns-in-Ok-clause-cause g c =
    let z = c.args.text.now in
    let ns = c.args.positions.now in
    err_then _ _ c.put_positions.result c.put_positions.ensures.cause (λ e why. elim why [
      | inl memory ↦ inl (memory_then (g.B.Buffer.held c.args.buf.now) _ (text z) _ _ e c.in-Ok.ensures.1 (omega (arith, length-append (text z) (uint16 (length ns) ++ flat_map uint16 ns))) memory)
      | inr some ↦ inr (either_then (text_cause z) (count_cause (length ns)) c.in-Ok.ensures.0 ∙ some)
    ])

pub returns-in-Err-clause-cause : goal.returns-in-Err-clause-cause
returns-in-Err-clause-cause g c =
    let z = c.args.text.now in
    let ns = c.args.positions.now in
    elim c.in-Err.ensures.0 [
      | inl memory ↦ inl (memory_more _ (length (text z)) _ _ (omega (arith, length-append (text z) (uint16 (length ns) ++ flat_map uint16 ns))) memory)
      | inr some ↦ inr (either_first (text_cause z) (count_cause (length ns)) _ some)
    ]
