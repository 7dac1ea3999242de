use Rattle.pgtrace_session.proofs.Common.{◌∙◌, ap, refl, columns_of, described, first, types_of, is_some, ok_then}
use Rattle.pgtrace_session.proofs.server_types.describe_row.Goals as goal

pub returns-clause-hears : goal.returns-clause-hears
returns-clause-hears g c =
    let fields = c.fields.result in
    let old = types_of c.args.types.now in
    let named = is_some old.texts in
    ok_then c.describe.result
    (λ is. (columns_of named fields.items fields.end, record { fields = fields.items; end = fields.end; list = c.fields.ensures.items; is = refl }, is ∙ ap (λ k. described (first c.args.number old.awaited) k old) (c.in_ok-columns.ensures.columns ∙ ap (λ b. columns_of b fields.items fields.end) c.is_some.ensures)))
    c.describe.ensures.described
