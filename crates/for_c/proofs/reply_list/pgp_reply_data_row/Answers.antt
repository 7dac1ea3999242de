use Rattle.for_c.proofs.Common.{rules, refl, fronts, YieldsList-from_slice, YieldsList-at, count_cause, counted_list, shown, value_parts, row_of, value_of}
use Rattle.for_c.proofs.NeverMemory.{never_count}
use Rattle.for_c.proofs.ReplyLists.{made_not_replied, made_replied, row_longer}
use Rattle.for_c.proofs.reply_list.pgp_reply_data_row.Goals as goal

pub returns-clause-sent : goal.returns-clause-sent
returns-clause-sent c z =
    made_replied shown value_of count_cause (counted_list value_parts) row_of refl row_longer fronts _ c.map.result c.args.values.now (YieldsList-at c.map.ensures.source (YieldsList-from_slice c.args.values.now cc)) _ c.map.ensures.closure (λ x r q k. (search rules, search rules))
    c.new-window.result c.data_row_of-answer.new.buf c.args.out.now _ c.new-window.ensures c.data_row_of-answer.result c.data_row_of-answer.ensures _ (search rules) _ (c.ended.ensures.sent z)

pub returns-clause-refused : goal.returns-clause-refused
returns-clause-refused c z =
    made_not_replied shown value_of count_cause (counted_list value_parts) row_of refl row_longer fronts _ c.map.result c.args.values.now (YieldsList-at c.map.ensures.source (YieldsList-from_slice c.args.values.now cc)) _ c.map.ensures.closure (λ x r q k. (search rules, search rules))
    c.new-window.result c.data_row_of-answer.new.buf c.args.out.now _ c.new-window.ensures c.data_row_of-answer.result c.data_row_of-answer.ensures never_count _ _ (c.ended.ensures.refused z)
