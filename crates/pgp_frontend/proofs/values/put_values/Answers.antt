use Rattle.pgp_frontend.proofs.Common.{rules, arith, [], ◌∷◌, ◌++◌, refl, length-append, sym, ◌∙◌, ◌⊕◌, uint16, nullable, counted_up, sized2, more_parts, nothing_more, Runs-snoc, Runs-length}
use Rattle.pgp_frontend.proofs.ValueLemmas.{Runs-fit, values_fit, value_stops, count_stops}
use Rattle.pgp_frontend.proofs.values.put_values.Goals as goal

pub loop-item-init : goal.loop-item-init
loop-item-init g c =
    (c.requires.callable, refl, ([], refl, c.in_ok-put_u16.ensures.ok ∙ sym (nothing_more (g.B.Buffer.held c.args.buf.now ⊕ uint16 0))))

pub loop-item-preserved : goal.loop-item-preserved
loop-item-preserved g c =
    let i = c.loop-item.invariant in
    let k = c.in_default.ensures.ok in
    (c.in_default.ensures.callable, omega (arith, length-append c.loop-item.yielded (c.in-Some.item ∷ [])), (i.2.0 ++ k.0 ∷ [], Runs-snoc _ _ _ _ _ _ _ _ _ _ _ i.2.1 i.2.2 k.1, more_parts nullable (g.B.Buffer.held c.args.buf.now ⊕ uint16 0) _ _ i.2.0 k.0 i.2.2 k.2))

pub patch_u16-requires : goal.patch_u16-requires
patch_u16-requires g c =
    omega (arith, sized2 (g.B.Buffer.held c.args.buf.now) _ _ _ refl c.loop-item.invariant.2.2)

pub returns-clause-ok : goal.returns-clause-ok
returns-clause-ok g c =
    let i = c.loop-item.invariant in
    let n = Runs-length _ _ _ _ _ _ _ i.2.1 in
    (i.2.0, record { xs = c.loop-item.yielded; received = search rules; made = i.2.1 }, values_fit i.2.0 (omega (arith, n)) (Runs-fit _ _ _ _ _ _ _ i.2.1), counted_up nullable i.2.0 _ _ _ _ _ i.2.2 c.len-base.ensures.value (omega (arith, n)) c.patch_u16.ensures)

pub returns-in-Err-clause-cause : goal.returns-in-Err-clause-cause
returns-in-Err-clause-cause g c =
    let i = c.loop-item.invariant in
    value_stops g.B.Buffer.held (goal.F-step g) _ _ c.args.values c.args.serializer.now (g.B.Buffer.held c.args.buf.now ⊕ uint16 0) (g.B.Buffer.held c.args.buf.now) refl g.B.Buffer.Lacks c.loop-item.yielded c.in-Some.item i.2.0 c.loop-item.serializer c.put_value.new.f _ c.in-Err.e (search rules) i.2.1 (omega arith) i.2.2 c.in-Err.ensures.cause

pub returns-then-count-clause-cause : goal.returns-then-count-clause-cause
returns-then-count-clause-cause g c =
    let i = c.loop-item.invariant in
    count_stops g.B.Buffer.held (goal.F-step g) _ _ c.args.values c.args.serializer.now (g.B.Buffer.held c.args.buf.now ⊕ uint16 0) (g.B.Buffer.held c.args.buf.now) refl g.B.Buffer.Lacks c.loop-item.yielded c.in-Some.item i.2.0 c.loop-item.serializer (search rules) i.2.1 (omega arith)
