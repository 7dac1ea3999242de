use Rattle.for_c.proofs.Common.{◌≡◌, ◌++◌, length, arith, inl, ap, sym, ◌∙◌, length-append, append_assoc, ◌⊕◌, uint32, fits_of, if_err_at, length-uint32, memory_more, memory_then, flag_in, head_of}
use Rattle.for_c.proofs.Elements.{then_more}
use Rattle.for_c.proofs.array.put_list_head.Goals as goal

pub returns-in_err-put_two-clause-cause : goal.returns-in_err-put_two-clause-cause
returns-in_err-put_two-clause-cause g c = if_err_at _ _ _ c.from_residual-in_err-put_two.ensures.1 (inl (memory_more _ 8 _ _ (omega arith) c.in_err-put_two.ensures.cause))

pub returns-in_err-put_two-2-clause-cause : goal.returns-in_err-put_two-2-clause-cause
returns-in_err-put_two-2-clause-cause g c =
    let one = uint32 1 in
    let f = uint32 c.flag.result in
    if_err_at _ _ _ c.from_residual-in_err-put_two-2.ensures.1 (inl (memory_then (g.B.Buffer.held c.args.buf.now) _ (one ++ f) 8 _ _ c.in_ok-put_two.ensures.ok (omega (arith, length-append one f, length-uint32 1, length-uint32 c.flag.result)) c.in_err-put_two-2.ensures.cause))

pub returns-in_err-put_u32-clause-cause : goal.returns-in_err-put_u32-clause-cause
returns-in_err-put_u32-clause-cause g c =
    let one = uint32 1 in
    let f = uint32 c.flag.result in
    let t = uint32 c.args.element_type in
    let n = uint32 c.in_ok-count.count in
    let four = then_more (g.B.Buffer.held c.args.buf.now) _ _ (one ++ f) (t ++ n) c.in_ok-put_two.ensures.ok c.in_ok-put_two-2.ensures.ok in
    if_err_at _ _ _ c.from_residual-in_err-put_u32.ensures.1 (inl (memory_then (g.B.Buffer.held c.args.buf.now) _ ((one ++ f) ++ (t ++ n)) 4 _ _ four (omega (arith, length-append (one ++ f) (t ++ n), length-append one f, length-append t n, length-uint32 1, length-uint32 c.flag.result, length-uint32 c.args.element_type, length-uint32 c.in_ok-count.count)) c.in_err-put_u32.ensures.cause))

pub returns-clause-ok : goal.returns-clause-ok
returns-clause-ok g c =
    let old = g.B.Buffer.held c.args.buf.now in
    let one = uint32 1 in
    let f = uint32 c.flag.result in
    let t = uint32 c.args.element_type in
    let n = uint32 c.in_ok-count.count in
    let four = then_more old _ _ (one ++ f) (t ++ n) c.in_ok-put_two.ensures.ok c.in_ok-put_two-2.ensures.ok in
    let five = then_more old _ _ ((one ++ f) ++ (t ++ n)) one four c.in_ok-put_u32.ensures.ok in
    let size = c.in_ok-count.ensures.value in
    let vs = c.args.elements.now in
    let apart : old ⊕ ((one ++ f) ++ (t ++ n) ++ one) ≡ old ⊕ (one ++ f ++ t ++ n ++ one) = ap (λ l. old ⊕ (l ++ one)) (sym (append_assoc (one ++ f) t n)) in
    let flagged : old ⊕ (one ++ f ++ t ++ n ++ one) ≡ old ⊕ (one ++ uint32 (flag_in vs) ++ t ++ n ++ one) = ap (λ i. old ⊕ (one ++ uint32 i ++ t ++ n ++ one)) c.flag.ensures in
    let counted : old ⊕ (one ++ uint32 (flag_in vs) ++ t ++ n ++ one) ≡ old ⊕ head_of c.args.element_type vs = ap (λ i. old ⊕ (one ++ uint32 (flag_in vs) ++ t ++ uint32 i ++ one)) size.0 in
    (omega (arith, fits_of (length vs) size.1), five ∙ (apart ∙ (flagged ∙ counted)))
