use Rattle.for_c.proofs.Common.{ℤ, map, arith, inl, inr, sym, ap, ◌∙◌, length, length-append, flat_map, ◌⊕◌, int16, uint16, count_fits, count_past, memory_more, memory_then, length-uint16}
use Rattle.for_c.proofs.BindItems.{as_they_are, none_formats}
use Rattle.for_c.proofs.Elements.{then_more}
use Rattle.for_c.proofs.Handed.{err_then, ok_then}
use Rattle.for_c.proofs.bind_items.put_formats.Goals as goal

pub returns-in-Ok-clause-ok : goal.returns-in-Ok-clause-ok
returns-in-Ok-clause-ok g c =
    let zs = c.args.formats.now in
    let old = g.B.Buffer.held c.args.buf.now in
    ok_then _ _ c.put_items.result c.put_items.ensures.ok (λ behind. (
      count_fits (length zs) (omega (arith, c.if-formats-gt-MOST.false)),
      then_more old _ _ (uint16 (length zs)) (flat_map int16 zs) c.in-Ok.ensures.ok (behind.1 ∙ ap (λ l. g.B.Buffer.held c.put_u16.new.buf ⊕ flat_map int16 l) (as_they_are zs)),
    ))

pub returns-in-Ok-clause-cause : goal.returns-in-Ok-clause-cause
returns-in-Ok-clause-cause g c =
    let zs = c.args.formats.now in
    let n = length zs in
    err_then _ _ c.put_items.result c.put_items.ensures.cause (λ e why. elim why [
      | inl memory ↦
          inl (memory_then (g.B.Buffer.held c.args.buf.now) _ (uint16 n) _ _ e c.in-Ok.ensures.ok (omega (arith, length-append (uint16 n) (flat_map int16 zs), length-uint16 n, ap (λ l. length (flat_map int16 l)) (as_they_are zs))) memory)
      | inr some ↦ absurd (let x = sym (none_formats (map (λ (z : ℤ). z) zs)) ∙ some in cc)
    ])

pub returns-in-Err-clause-cause : goal.returns-in-Err-clause-cause
returns-in-Err-clause-cause g c =
    let zs = c.args.formats.now in
    let n = length zs in
    inl (memory_more _ 2 _ _ (omega (arith, length-append (uint16 n) (flat_map int16 zs), length-uint16 n)) c.in-Err.ensures.cause)

pub returns-then-formats-gt-MOST-clause-cause : goal.returns-then-formats-gt-MOST-clause-cause
returns-then-formats-gt-MOST-clause-cause g c = inr (count_past (length c.args.formats.now) (omega (arith, c.if-formats-gt-MOST.true)))
