use Rattle.for_c.proofs.Common.{rules, refl, pos, ◌∷◌, fronts, YieldsList-from_slice, YieldsList-at, Int32, Authentication, AuthenticationSasl, uncounted, marked_list, text_parts, names_of, name_of}
use Rattle.for_c.proofs.ReplyLists.{made_not_replied, made_replied, sasl_longer, never_uncounted}
use Rattle.for_c.proofs.reply_names.pgp_reply_authentication_sasl.Goals as goal

pub returns-clause-sent : goal.returns-clause-sent
returns-clause-sent c z =
    made_replied (λ name. name.now) name_of uncounted (λ all. Int32 (pos 10) ∷ marked_list text_parts all) (λ all. Authentication (AuthenticationSasl (names_of all))) refl sasl_longer fronts _ c.map.result c.args.mechanisms.now (YieldsList-at c.map.ensures.source (YieldsList-from_slice c.args.mechanisms.now cc)) _ c.map.ensures.closure (λ x r q k. (search rules, search rules))
    c.new-window.result c.authentication_sasl_of-answer.new.buf c.args.out.now _ c.new-window.ensures c.authentication_sasl_of-answer.result c.authentication_sasl_of-answer.ensures _ (search rules) _ (c.ended.ensures.sent z)

pub returns-clause-refused : goal.returns-clause-refused
returns-clause-refused c z =
    made_not_replied (λ name. name.now) name_of uncounted (λ all. Int32 (pos 10) ∷ marked_list text_parts all) (λ all. Authentication (AuthenticationSasl (names_of all))) refl sasl_longer fronts _ c.map.result c.args.mechanisms.now (YieldsList-at c.map.ensures.source (YieldsList-from_slice c.args.mechanisms.now cc)) _ c.map.ensures.closure (λ x r q k. (search rules, search rules))
    c.new-window.result c.authentication_sasl_of-answer.new.buf c.args.out.now _ c.new-window.ensures c.authentication_sasl_of-answer.result c.authentication_sasl_of-answer.ensures never_uncounted _ _ (c.ended.ensures.refused z)
