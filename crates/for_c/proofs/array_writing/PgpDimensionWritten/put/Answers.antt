use Rattle.for_c.proofs.Common.{rules, ◌≡◌, ◌++◌, arith, refl, inl, ap, ◌∙◌, length, length-append, ◌⊕◌, uint32, memory_more, length-uint32, w32, cast_unsigned}
use Rattle.for_c.proofs.ArrayShapes.{dimension_is}
use Rattle.for_c.proofs.Handed.{err_then, ok_then}
use Rattle.for_c.proofs.array_writing.PgpDimensionWritten.put.Goals as goal

pub returns-clause-ok : goal.returns-clause-ok
returns-clause-ok g c =
    let d = c.args.self.now in
    let old = g.B.Buffer.held c.args.buf.now in
    let one : c.cast_unsigned.result ≡ cast_unsigned w32 d.len = search rules in
    let two : c.cast_unsigned-2.result ≡ cast_unsigned w32 d.lower_bound = search rules in
    ok_then _ _ c.put_two.result c.put_two.ensures.ok (λ wrote. (
      refl,
      wrote ∙ (ap (λ n. old ⊕ (uint32 n ++ uint32 c.cast_unsigned-2.result)) one ∙ (ap (λ n. old ⊕ (uint32 (cast_unsigned w32 d.len) ++ uint32 n)) two ∙ ap (λ l. old ⊕ l) (dimension_is d))),
    ))

pub returns-clause-cause : goal.returns-clause-cause
returns-clause-cause g c =
    let d = c.args.self.now in
    let one = uint32 (cast_unsigned w32 d.len) in
    let two = uint32 (cast_unsigned w32 d.lower_bound) in
    err_then _ _ c.put_two.result c.put_two.ensures.cause (λ e memory. inl (memory_more _ 8 _ _
    (omega (arith, ap length (dimension_is d), length-append one two, length-uint32 (cast_unsigned w32 d.len), length-uint32 (cast_unsigned w32 d.lower_bound))) memory))
