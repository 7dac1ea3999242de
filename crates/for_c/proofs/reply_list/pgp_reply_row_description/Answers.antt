use Rattle.for_c.proofs.Common.{rules, refl, fronts, YieldsList-from_slice, YieldsList-at, count_cause, column_parts, counted_list, description_of, shown_column, described}
use Rattle.for_c.proofs.NeverMemory.{never_count}
use Rattle.for_c.proofs.ReplyLists.{made_not_replied, made_replied, description_longer}
use Rattle.for_c.proofs.reply_list.pgp_reply_row_description.Goals as goal

pub returns-clause-sent : goal.returns-clause-sent
returns-clause-sent c z =
    made_replied shown_column described count_cause (counted_list column_parts) description_of refl description_longer fronts _ c.map.result c.args.columns.now (YieldsList-at c.map.ensures.source (YieldsList-from_slice c.args.columns.now cc)) _ c.map.ensures.closure (λ x r q k. (search rules, search rules))
    c.new-window.result c.row_description_of-answer.new.buf c.args.out.now _ c.new-window.ensures c.row_description_of-answer.result c.row_description_of-answer.ensures _ (search rules) _ (c.ended.ensures.sent z)

pub returns-clause-refused : goal.returns-clause-refused
returns-clause-refused c z =
    made_not_replied shown_column described count_cause (counted_list column_parts) description_of refl description_longer fronts _ c.map.result c.args.columns.now (YieldsList-at c.map.ensures.source (YieldsList-from_slice c.args.columns.now cc)) _ c.map.ensures.closure (λ x r q k. (search rules, search rules))
    c.new-window.result c.row_description_of-answer.new.buf c.args.out.now _ c.new-window.ensures c.row_description_of-answer.result c.row_description_of-answer.ensures never_count _ _ (c.ended.ensures.refused z)
