use Rattle.for_c.proofs.Common.{rules, ◌≡◌, arith, refl, inl, ap, ◌∙◌, w16, cast_unsigned, ◌⊕◌, uint16, memory_more}
use Rattle.for_c.proofs.BindItems.{int16_is, length-int16}
use Rattle.for_c.proofs.Handed.{err_then, ok_then}
use Rattle.for_c.proofs.bind_items.I16Written.put.Goals as goal

pub returns-clause-ok : goal.returns-clause-ok
returns-clause-ok g c =
    let z = c.args.self.now in
    let old = g.B.Buffer.held c.args.buf.now in
    let is : c.cast_unsigned.result ≡ cast_unsigned w16 z = search rules in
    ok_then _ _ c.put_u16.result c.put_u16.ensures.ok (λ wrote. (refl, wrote ∙ (ap (λ n. old ⊕ uint16 n) is ∙ ap (λ l. old ⊕ l) (int16_is z))))

pub returns-clause-cause : goal.returns-clause-cause
returns-clause-cause g c = err_then _ _ c.put_u16.result c.put_u16.ensures.cause (λ e memory. inl (memory_more _ 2 _ _ (omega (arith, length-int16 c.args.self.now)) memory))
