use Rattle.for_c.proofs.Common.{rules, ap, map, inl, inr, refl, ◌∙◌, Some, number_of, hstore, entry_of}
use Rattle.for_c.proofs.Pairs.{entries_text, hstore_large}
use Rattle.for_c.proofs.Sending.{wrote, lacked}
use Rattle.for_c.proofs.hstore.pgp_put_hstore.Goals as goal

pub returns-in-Ok-clause-wrote : goal.returns-in-Ok-clause-wrote
returns-in-Ok-clause-wrote c z =
    let ps = c.args.pairs.now in
    let bytes = hstore.written (map entry_of ps) in
    let k = c.in-Ok.ensures.ok in (
      entries_text ps (search rules),
      wrote bytes bytes refl c.new-window.result c.put_list.new.buf c.args.out.now _ c.new-window.ensures k.1 _ (search rules) _ c.sent.ensures.reported,
    )

pub returns-in-Err-clause-refused : goal.returns-in-Err-clause-refused
returns-in-Err-clause-refused c z =
    let ps = c.args.pairs.now in
    let bytes = hstore.written (map entry_of ps) in (
      c.refused-in-Err.ensures.reported,
      elim c.in-Err.ensures.cause [
        | inl memory ↦ inr (lacked bytes bytes refl c.new-window.result c.args.out.now _ c.new-window.ensures c.in-Err.e _ _ (inl memory) c.refused-in-Err.ensures.code c.refused-in-Err.ensures.reported)
        | inr some ↦
            let large = hstore_large ps c.in-Err.e some in
            inl (inr (c.refused-in-Err.ensures.code ∙ ap number_of large, some ∙ ap (λ e. Some e) large))
      ],
    )
