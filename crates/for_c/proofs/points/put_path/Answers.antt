use Rattle.for_c.proofs.Common.{map, arith, inl, inr, sym, ◌∙◌, length-append, bool_bytes, memory_more, memory_then, polygon, point_of}
use Rattle.for_c.proofs.Elements.{then_more}
use Rattle.for_c.proofs.Handed.{err_then, ok_then}
use Rattle.for_c.proofs.PointLists.{corner_cause}
use Rattle.for_c.proofs.points.put_path.Goals as goal

pub returns-in-Ok-clause-ok : goal.returns-in-Ok-clause-ok
returns-in-Ok-clause-ok g c =
    let ps = map point_of c.args.points.now in
    ok_then _ _ c.put_list.result c.put_list.ensures.ok (λ behind.
    (sym (corner_cause ps) ∙ behind.0, then_more (g.B.Buffer.held c.args.buf.now) _ _ (bool_bytes c.args.is_closed) (polygon.written ps) c.in-Ok.ensures.1 behind.1))

pub returns-in-Ok-clause-cause : goal.returns-in-Ok-clause-cause
returns-in-Ok-clause-cause g c =
    let ps = map point_of c.args.points.now in
    let flag = bool_bytes c.args.is_closed in
    err_then _ _ c.put_list.result c.put_list.ensures.cause (λ e why. elim why [
      | inl memory ↦ inl (memory_then (g.B.Buffer.held c.args.buf.now) _ flag _ _ _ c.in-Ok.ensures.1 (omega (arith, length-append flag (polygon.written ps))) memory)
      | inr some ↦ inr (sym (corner_cause ps) ∙ some)
    ])

pub returns-in-Err-clause-cause : goal.returns-in-Err-clause-cause
returns-in-Err-clause-cause g c =
    let ps = map point_of c.args.points.now in
    let flag = bool_bytes c.args.is_closed in
    elim c.in-Err.ensures.0 [
      | inl memory ↦ inl (memory_more _ _ _ _ (omega (arith, length-append flag (polygon.written ps))) memory)
      | inr none ↦ absurd (let e = none in cc)
    ]
