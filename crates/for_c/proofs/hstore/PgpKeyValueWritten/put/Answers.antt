use Rattle.for_c.proofs.Common.{Some, arith, inl, inr, ◌∙◌, length-append, nullable_cause, nullable, either_first, either_then, memory_more, memory_then, value_of}
use Rattle.for_c.proofs.Handed.{err_then}
use Rattle.for_c.proofs.hstore.PgpKeyValueWritten.put.Goals as goal

pub returns-in-Err-clause-cause : goal.returns-in-Err-clause-cause
returns-in-Err-clause-cause g c =
    let key = Some c.args.self.now.key.now in
    let value = value_of c.args.self.now.value in
    elim c.in-Err.ensures.cause [
      | inl memory ↦ inl (memory_more _ _ _ _ (omega (arith, length-append (nullable key) (nullable value))) memory)
      | inr some ↦ inr (either_first (nullable_cause key) (nullable_cause value) _ some)
    ]

pub returns-in-Ok-clause-cause : goal.returns-in-Ok-clause-cause
returns-in-Ok-clause-cause g c =
    let key = Some c.args.self.now.key.now in
    let value = value_of c.args.self.now.value in
    err_then _ _ c.put_value.result c.put_value.ensures.cause (λ e why. elim why [
      | inl memory ↦ inl (memory_then (g.B.Buffer.held c.args.buf.now) _ (nullable key) _ _ _ c.in-Ok.ensures.ok.1 (omega (arith, length-append (nullable key) (nullable value))) memory)
      | inr some ↦ inr (either_then (nullable_cause key) (nullable_cause value) c.in-Ok.ensures.ok.0 ∙ some)
    ])
