use Rattle.for_c.proofs.Common.{arith, inl, inr, map, sym, ap, ◌∙◌, length, length-append, flat_map, map-id, ◌⊕◌, uint16, count_fits, memory_more, memory_then, length-uint16}
use Rattle.pgp_values.proofs.PlaceLemmas.{count_is}
use Rattle.for_c.proofs.Elements.{then_more}
use Rattle.for_c.proofs.Handed.{err_then, ok_then}
use Rattle.for_c.proofs.TextSearch.{no_causes}
use Rattle.for_c.proofs.tsvector.put_positions.Goals as goal

pub returns-in-Ok-put_u16-clause-ok : goal.returns-in-Ok-put_u16-clause-ok
returns-in-Ok-put_u16-clause-ok g c =
    let ns = c.args.positions.now in
    let old = g.B.Buffer.held c.args.buf.now in
    let fits = count_is (length ns) c.in-Ok.count c.u16_from_usize.result c.u16_from_usize.ensures.fits c.u16_from_usize.ensures.passes c.in-Ok.is in
    ok_then _ _ c.put_items.result c.put_items.ensures.ok (λ behind. (
      count_fits (length ns) fits.0,
      then_more old _ _ (uint16 (length ns)) (flat_map uint16 ns) (c.in-Ok-put_u16.ensures.ok ∙ ap (λ i. old ⊕ uint16 i) (sym fits.1)) (behind.1 ∙ ap (λ l. g.B.Buffer.held c.put_u16.new.buf ⊕ flat_map uint16 l) (map-id ns)),
    ))

pub returns-in-Ok-put_u16-clause-cause : goal.returns-in-Ok-put_u16-clause-cause
returns-in-Ok-put_u16-clause-cause g c =
    let ns = c.args.positions.now in
    let count = uint16 (length ns) in
    err_then _ _ c.put_items.result c.put_items.ensures.cause (λ e why. elim why [
      | inl memory ↦
          inl (memory_then (g.B.Buffer.held c.args.buf.now) _ (uint16 c.in-Ok.count) _ _ e c.in-Ok-put_u16.ensures.ok
          (omega (arith, length-append count (flat_map uint16 ns), length-uint16 (length ns), length-uint16 c.in-Ok.count, ap (λ l. length (flat_map uint16 l)) (map-id ns))) memory)
      | inr some ↦ absurd (let none = sym (no_causes (map (λ n. n) ns)) ∙ some in cc)
    ])

pub returns-in-Err-put_u16-clause-cause : goal.returns-in-Err-put_u16-clause-cause
returns-in-Err-put_u16-clause-cause g c =
    let ns = c.args.positions.now in
    inl (memory_more _ 2 _ _ (omega (arith, length-append (uint16 (length ns)) (flat_map uint16 ns), length-uint16 (length ns))) c.in-Err-put_u16.ensures.cause)
