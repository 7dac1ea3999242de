use Rattle.pgp_types.proofs.Common.{rules, [], ◌∷◌, ◌++◌, refl, sym, ◌∙◌, nullable, more_parts, nothing_more, Runs-snoc}
use Rattle.pgp_types.proofs.ArrayWrites.{null_then, value_then, value_stops}
use Rattle.pgp_types.proofs.array_writing.put_elements.Goals as goal

pub loop-element-init : goal.loop-element-init
loop-element-init g c =
    (c.requires.callable, ([], refl, refl, sym (nothing_more (g.B.Buffer.held c.args.buf.now))))

pub loop-element-preserved-in-Ok-Yes : goal.loop-element-preserved-in-Ok-Yes
loop-element-preserved-in-Ok-Yes g c =
    let i = c.loop-element.invariant.1 in
    let k = c.in-Ok-Yes.ensures.ok in
    (c.in-Ok-Yes.ensures.callable, (i.0 ++ k.0 ∷ [], Runs-snoc _ _ _ _ _ _ _ _ _ _ _ i.1 i.3 k.1, null_then i.0 k.0 (sym c.in-Ok-Yes.field-0-is ∙ k.3), more_parts nullable (g.B.Buffer.held c.args.buf.now) _ _ i.0 k.0 i.3 k.2))

pub loop-element-preserved : goal.loop-element-preserved
loop-element-preserved g c =
    let i = c.loop-element.invariant.1 in
    let k = c.in-Ok-No.ensures.ok in
    (c.in-Ok-No.ensures.callable, (i.0 ++ k.0 ∷ [], Runs-snoc _ _ _ _ _ _ _ _ _ _ _ i.1 i.3 k.1, i.2 ∙ value_then i.0 k.0 (sym c.in-Ok-No.field-0-is ∙ k.3), more_parts nullable (g.B.Buffer.held c.args.buf.now) _ _ i.0 k.0 i.3 k.2))

pub returns-in-Err-clause-cause : goal.returns-in-Err-clause-cause
returns-in-Err-clause-cause g c =
    let i = c.loop-element.invariant.1 in
    value_stops g.B.Buffer.held (goal.F-step g) _ c.args.serializer.now (g.B.Buffer.held c.args.buf.now) g.B.Buffer.Lacks c.loop-element.yielded c.in-Some.element i.0 c.loop-element.serializer c.put_value.new.f _ c.in-Err.e (search rules) i.1 i.3 c.in-Err.ensures.cause
