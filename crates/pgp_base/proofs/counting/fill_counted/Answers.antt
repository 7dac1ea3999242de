use Rattle.pgp_base.proofs.Common.{rules, arith, [], ◌∷◌, ◌++◌, length, refl, inr, length-append, sym, ◌∙◌, ◌⊕◌, uint16}
use Rattle.pgp_base.proofs.Causes.{count_fits}
use Rattle.pgp_base.proofs.Parts.{counted_up, sized2, more_parts, nothing_more, Runs-snoc, Runs-length, Puts-at, front_twice, front_then, front_refused}
use Rattle.pgp_base.proofs.counting.fill_counted.Goals as goal

pub returns-in-Err-clause-cause : goal.returns-in-Err-clause-cause
returns-in-Err-clause-cause g c =
    let i = c.loop-item.invariant in
    let k = c.in-Err.ensures.put in
    inr (record { xs = c.loop-item.yielded; x = c.in-Some.item; received = search rules; parts = i.2.0; at = c.loop-item.serializer; runs = i.2.1; cause = inr (omega arith, (k.0, c.in-Err.e, refl, Puts-at _ _ i.2.2 k.1)) })

pub loop-item-preserved : goal.loop-item-preserved
loop-item-preserved g c =
    let i = c.loop-item.invariant in
    let k = c.in_default.ensures.put in
    (c.in_default.ensures.callable, omega (arith, length-append c.loop-item.yielded (c.in-Some.item ∷ [])), (i.2.0 ++ k.0 ∷ [], Runs-snoc _ _ _ _ _ _ _ _ _ _ _ i.2.1 i.2.2 k.1, more_parts (λ p. p) (g.B.Buffer.held c.args.buf.now ⊕ uint16 0) _ _ i.2.0 k.0 i.2.2 k.2))

pub patch_u16-requires : goal.patch_u16-requires
patch_u16-requires g c =
    omega (arith, sized2 (g.B.Buffer.held c.args.buf.now) _ _ _ refl c.loop-item.invariant.2.2)

pub returns-clause-ok : goal.returns-clause-ok
returns-clause-ok g c =
    let i = c.loop-item.invariant in
    let n = Runs-length _ _ _ _ _ _ _ i.2.1 in
    let held = counted_up (λ p. p) i.2.0 _ _ _ _ _ i.2.2 c.len-base.ensures.value (omega arith) c.patch_u16.ensures in
    record { xs = c.loop-item.yielded; received = search rules; parts = i.2.0; runs = i.2.1; fits = count_fits (length c.loop-item.yielded) (omega arith); appended = held }

pub loop-item-init : goal.loop-item-init
loop-item-init g c =
    (c.requires.callable, refl, ([], refl, c.in_ok-put_u16.ensures.ok ∙ sym (nothing_more (g.B.Buffer.held c.args.buf.now ⊕ uint16 0))))

pub returns-then-count-clause-err : goal.returns-then-count-clause-err
returns-then-count-clause-err g c = front_twice (g.B.Buffer.held c.args.buf.now) _ _ _ _ refl c.loop-item.invariant.2.2

pub returns-in-Err-clause-err : goal.returns-in-Err-clause-err
returns-in-Err-clause-err g c = front_then (g.B.Buffer.held c.args.buf.now) _ _ _ refl (front_refused _ _ _ _ _ c.loop-item.invariant.2.2 c.in-Err.ensures.put.2)
