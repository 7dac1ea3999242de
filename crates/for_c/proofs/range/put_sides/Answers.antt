use Rattle.for_c.proofs.Common.{◌∷◌, ◌++◌, [], arith, inl, inr, ap, ◌∙◌, length-append, ◌⊕◌, either_first, either_then, more_twice, wants_more, wants_then, side_bytes, side_cause, side_of}
use Rattle.for_c.proofs.Handed.{err_then}
use Rattle.for_c.proofs.range.put_sides.Goals as goal

pub returns-in-Err-clause-cause : goal.returns-in-Err-clause-cause
returns-in-Err-clause-cause g c =
    let memory = c.in-Err.ensures.cause in
    inl (memory.0, wants_more _ 1 _ (omega arith) memory.1)

pub returns-in-Err-put_side-clause-cause : goal.returns-in-Err-put_side-clause-cause
returns-in-Err-put_side-clause-cause g c =
    let l = side_of c.args.lower.now in
    let u = side_of c.args.upper.now in
    elim c.in-Err-put_side.ensures.cause [
      | inl memory ↦ inl (memory.0, wants_then (g.B.Buffer.held c.args.buf.now) _ (_ ∷ []) _ _ c.in-Ok.ensures.ok (omega (arith, length-append (side_bytes l) (side_bytes u))) memory.1)
      | inr some ↦ inr (either_first (side_cause l) (side_cause u) _ some)
    ]

pub returns-in-Ok-put_side-clause-cause : goal.returns-in-Ok-put_side-clause-cause
returns-in-Ok-put_side-clause-cause g c =
    let l = side_of c.args.lower.now in
    let u = side_of c.args.upper.now in
    let old = g.B.Buffer.held c.args.buf.now in
    err_then _ _ c.put_side-in-Ok-put_side.result c.put_side-in-Ok-put_side.ensures.cause (λ e why. elim why [
      | inl memory ↦
          inl (memory.0, wants_then old _ ((_ ∷ []) ++ side_bytes l) _ _ (c.in-Ok-put_side.ensures.ok.1 ∙ (ap (λ h. h ⊕ side_bytes l) c.in-Ok.ensures.ok ∙ more_twice old (_ ∷ []) (side_bytes l))) (omega (arith, length-append (side_bytes l) (side_bytes u))) memory.1)
      | inr some ↦ inr (either_then (side_cause l) (side_cause u) c.in-Ok-put_side.ensures.ok.0 ∙ some)
    ])
