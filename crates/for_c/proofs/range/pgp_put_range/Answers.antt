use Rattle.for_c.proofs.Common.{rules, refl, ap, inl, inr, ◌∙◌, Some, number_of, range_bytes, range_of_sides}
use Rattle.for_c.proofs.Putting.{range_large}
use Rattle.for_c.proofs.Sending.{wrote, lacked}
use Rattle.for_c.proofs.range.pgp_put_range.Goals as goal

pub returns-in-Ok-clause-wrote : goal.returns-in-Ok-clause-wrote
returns-in-Ok-clause-wrote c z =
    let bytes = range_bytes (range_of_sides c.args.lower.now c.args.upper.now) in
    wrote bytes bytes refl c.new-window.result c.put_sides.new.buf c.args.out.now _ c.new-window.ensures c.in-Ok.ensures.ok.1 _ (search rules) _ c.sent.ensures.reported

pub returns-in-Err-clause-refused : goal.returns-in-Err-clause-refused
returns-in-Err-clause-refused c z =
    let bytes = range_bytes (range_of_sides c.args.lower.now c.args.upper.now) in (
      c.refused.ensures.reported,
      elim c.in-Err.ensures.cause [
        | inl memory ↦ inr (lacked bytes bytes refl c.new-window.result c.args.out.now _ c.new-window.ensures c.in-Err.e _ _ (inl memory) c.refused.ensures.code c.refused.ensures.reported)
        | inr some ↦
            let large = range_large c.args.lower.now c.args.upper.now c.in-Err.e some in
            inl (inr (c.refused.ensures.code ∙ ap number_of large, some ∙ ap (λ e. Some e) large))
      ],
    )
