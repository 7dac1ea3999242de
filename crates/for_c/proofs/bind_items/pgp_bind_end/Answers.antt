use Rattle.for_c.proofs.Common.{rules, inl, inr}
use Rattle.for_c.proofs.BindItems.{not_sent, not_short, sent_whole}
use Rattle.for_c.proofs.bind_items.pgp_bind_end.Goals as goal

pub returns-clause-sent : goal.returns-clause-sent
returns-clause-sent c z p s fs vs count b =
    sent_whole p s fs count vs c.args.result_formats.now c.args.out.now c.args.items.now (search rules) b _ _ (search rules) (c.end.ensures.counted z) (c.end.ensures.ended z)

pub returns-clause-refused : goal.returns-clause-refused
returns-clause-refused c z formats none p s fs vs count b =
    not_sent p s fs count vs c.args.result_formats.now c.args.out.now c.args.items.now none b _ _ (c.end.ensures.left z).0 (c.end.ensures.refused z)

pub returns-then-is_unfinished-clause-refused : goal.returns-then-is_unfinished-clause-refused
returns-then-is_unfinished-clause-refused c z formats none p s fs vs count b =
    absurd (elim (c.is_unfinished.ensures.yes (search rules)) [
      | inl some ↦ some none
      | inr short ↦ not_short p s fs count vs c.args.result_formats.now c.args.out.now c.args.items.now none b short
    ])
