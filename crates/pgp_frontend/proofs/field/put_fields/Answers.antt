use Rattle.pgp_frontend.proofs.Common.{if_err_at}
use Rattle.pgp_frontend.proofs.Fields.{fields_empty, fields_behind, first_refused, later_refused}
use Rattle.pgp_frontend.proofs.field.put_fields.Goals as goal

pub returns-in_default-clause-ok : goal.returns-in_default-clause-ok
returns-in_default-clause-ok g c = fields_empty c.args.fields.now (g.B.Buffer.held c.args.buf.now) c.in_default.len_below

pub returns-clause-ok : goal.returns-clause-ok
returns-clause-ok g c =
    fields_behind c.put_each.result c.args.fields.now _ (g.B.Buffer.held c.args.buf.now) _ (g.B.Buffer.held c.put_each.new.buf) c.in-len1-up.len_at_least c.in_ok-put_field.ensures.ok
    (fields_behind c.put_each.result _ _ (g.B.Buffer.held c.put_field.new.buf) _ (g.B.Buffer.held c.put_each.new.buf) c.in-len1-up-later.len_at_least c.in_ok-put_field-2.ensures.ok c.put_each.ensures.ok)

pub returns-in_err-put_field-clause-cause : goal.returns-in_err-put_field-clause-cause
returns-in_err-put_field-clause-cause g c =
    if_err_at _ _ _ c.from_residual.ensures.1 (first_refused c.args.fields.now _ (g.B.Buffer.held c.args.buf.now) _ c.in-len1-up.len_at_least c.in_err-put_field.ensures.cause)

pub returns-clause-cause : goal.returns-clause-cause
returns-clause-cause g c =
    later_refused g.B.Buffer.Lacks c.put_each.result c.args.fields.now _ (g.B.Buffer.held c.args.buf.now) _ c.in-len1-up.len_at_least c.in_ok-put_field.ensures.ok
    (later_refused g.B.Buffer.Lacks c.put_each.result _ _ (g.B.Buffer.held c.put_field.new.buf) _ c.in-len1-up-later.len_at_least c.in_ok-put_field-2.ensures.ok c.put_each.ensures.cause)

pub returns-in_err-put_field-2-clause-cause : goal.returns-in_err-put_field-2-clause-cause
returns-in_err-put_field-2-clause-cause g c =
    later_refused g.B.Buffer.Lacks c.from_residual-in_err-put_field-2.result c.args.fields.now _ (g.B.Buffer.held c.args.buf.now) _ c.in-len1-up.len_at_least c.in_ok-put_field.ensures.ok
    (if_err_at _ _ _ c.from_residual-in_err-put_field-2.ensures.1 (first_refused _ _ (g.B.Buffer.held c.put_field.new.buf) _ c.in-len1-up-later.len_at_least c.in_err-put_field-2.ensures.cause))
