use Rattle.for_c.proofs.Common.{rules, refl, fronts, YieldsList-from_slice, YieldsList-at, NoticeResponse, uncounted, field_parts, marked_list, fields_of, shown_field, reported_field}
use Rattle.for_c.proofs.ReplyLists.{made_not_replied, made_replied, notice_longer, never_uncounted}
use Rattle.for_c.proofs.reply_list.pgp_reply_notice.Goals as goal

pub returns-clause-sent : goal.returns-clause-sent
returns-clause-sent c z =
    made_replied shown_field reported_field uncounted (marked_list field_parts) (λ all. NoticeResponse (fields_of all)) refl notice_longer fronts _ c.map.result c.args.fields.now (YieldsList-at c.map.ensures.source (YieldsList-from_slice c.args.fields.now cc)) _ c.map.ensures.closure (λ x r q k. (search rules, search rules))
    c.new-window.result c.notice_response_of-answer.new.buf c.args.out.now _ c.new-window.ensures c.notice_response_of-answer.result c.notice_response_of-answer.ensures _ (search rules) _ (c.ended.ensures.sent z)

pub returns-clause-refused : goal.returns-clause-refused
returns-clause-refused c z =
    made_not_replied shown_field reported_field uncounted (marked_list field_parts) (λ all. NoticeResponse (fields_of all)) refl notice_longer fronts _ c.map.result c.args.fields.now (YieldsList-at c.map.ensures.source (YieldsList-from_slice c.args.fields.now cc)) _ c.map.ensures.closure (λ x r q k. (search rules, search rules))
    c.new-window.result c.notice_response_of-answer.new.buf c.args.out.now _ c.new-window.ensures c.notice_response_of-answer.result c.notice_response_of-answer.ensures never_uncounted _ _ (c.ended.ensures.refused z)
