use Rattle.pgp_frontend.proofs.Common.{rules, inl, inr, if_err_at}
use Rattle.pgp_frontend.proofs.Fields.{fields_none, fields_joined, fields_refused, fields_want}
use Rattle.pgp_frontend.proofs.field.put_each.Goals as goal

pub returns-in_err-put_field-clause-cause : goal.returns-in_err-put_field-clause-cause
returns-in_err-put_field-clause-cause g c =
    if_err_at c.from_residual.result _ _ c.from_residual.ensures.1
    (elim c.in_err-put_field.ensures.cause [
      | inl memory ↦ inl (fields_want c.args.fields.now c.loop-field.field-index _ (g.B.Buffer.held c.args.buf.now) _ _ (search rules) c.loop-field.invariant.1 memory)
      | inr refused ↦ inr (fields_refused c.args.fields.now c.loop-field.field-index _ _ (search rules) c.loop-field.invariant.0 refused)
    ])

pub loop-field-preserved : goal.loop-field-preserved
loop-field-preserved g c =
    let i = c.loop-field.invariant in
    let k = c.in_ok-put_field.ensures.ok in
    (fields_none c.args.fields.now c.loop-field.field-index _ (search rules) i.0 k.0, fields_joined c.args.fields.now c.loop-field.field-index _ (g.B.Buffer.held c.args.buf.now) _ _ (search rules) i.1 k.1)
