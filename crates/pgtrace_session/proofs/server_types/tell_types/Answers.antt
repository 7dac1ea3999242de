use Rattle.pgtrace_session.proofs.Common.{◌∙◌, ap, refl, parameters_in, first, tells, types_of, ok_then}
use Rattle.pgtrace_session.proofs.server_types.tell_types.Goals as goal

pub returns-clause-hears : goal.returns-clause-hears
returns-clause-hears g c =
    let row = c.parameters.result in
    let old = types_of c.args.types.now in
    ok_then c.tell.result
    (λ is. (parameters_in row.items row.end, record { types = row.items; end = row.end; list = c.parameters.ensures.items; is = refl }, is ∙ ap (λ k. tells (first c.args.number old.awaited) k old) c.in_ok-parameters.ensures.types))
    c.tell.ensures.told
