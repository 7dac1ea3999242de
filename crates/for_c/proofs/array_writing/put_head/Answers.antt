use Rattle.for_c.proofs.Common.{arith, inl, sym, ap, ◌∙◌, ◌++◌, append_assoc, ◌⊕◌, uint32, memory_more, memory_then, length-uint32}
use Rattle.for_c.proofs.Elements.{then_more}
use Rattle.for_c.proofs.Handed.{err_then, ok_then}
use Rattle.for_c.proofs.array_writing.put_head.Goals as goal

pub returns-in-Ok-put_u32-clause-ok : goal.returns-in-Ok-put_u32-clause-ok
returns-in-Ok-put_u32-clause-ok g c =
    let old = g.B.Buffer.held c.args.buf.now in
    let n = uint32 c.args.count in
    let f = uint32 c.args.flag in
    let t = uint32 c.args.element_type in
    let size = c.in-Ok.ensures.value in
    ok_then _ _ c.put_two.result c.put_two.ensures.ok (λ behind.
    (size.1, then_more old _ _ n (f ++ t) (c.in-Ok-put_u32.ensures.ok ∙ ap (λ i. old ⊕ uint32 i) size.0) behind ∙ ap (λ l. old ⊕ l) (sym (append_assoc n f t))))

pub returns-in-Ok-put_u32-clause-cause : goal.returns-in-Ok-put_u32-clause-cause
returns-in-Ok-put_u32-clause-cause g c =
    let k = c.in-Ok.count in
    err_then _ _ c.put_two.result c.put_two.ensures.cause (λ e memory. inl (memory_then (g.B.Buffer.held c.args.buf.now) _ (uint32 k) 8 12 e c.in-Ok-put_u32.ensures.ok (omega (arith, length-uint32 k)) memory))

pub returns-in-Err-put_u32-clause-cause : goal.returns-in-Err-put_u32-clause-cause
returns-in-Err-put_u32-clause-cause g c = inl (memory_more _ 4 12 _ (omega arith) c.in-Err-put_u32.ensures.cause)
