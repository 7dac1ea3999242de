use Rattle.for_c.proofs.Common.{rules, refl, map, ◌∷◌, to_z, of_z, to_z-of_z, fronts, YieldsList-from_slice, YieldsList-at, length_cause, Int32, text_parts, wide_list, negotiation_of, name_of}
use Rattle.std.proofs.Common.{w32}
use Rattle.for_c.proofs.NeverMemory.{never_length}
use Rattle.for_c.proofs.ReplyLists.{made_not_replied, made_replied, negotiated, negotiation_longer, not_negotiated}
use Rattle.for_c.proofs.reply_names.pgp_reply_negotiate_protocol_version.Goals as goal

pub returns-clause-sent : goal.returns-clause-sent
returns-clause-sent c z =
    let v = to_z w32 (of_z w32 c.args.version) in
    negotiated c.args.version v (to_z-of_z c.ranges.version) (map name_of c.args.options.now) c.args.out.now _ _
    (made_replied (λ name. name.now) name_of length_cause (λ all. Int32 v ∷ wide_list text_parts all) (negotiation_of v) refl (negotiation_longer v) fronts _ c.map.result c.args.options.now (YieldsList-at c.map.ensures.source (YieldsList-from_slice c.args.options.now cc)) _ c.map.ensures.closure (λ x r q k. (search rules, search rules))
    c.new-window.result c.negotiate_protocol_version_of-answer.new.buf c.args.out.now _ c.new-window.ensures c.negotiate_protocol_version_of-answer.result c.negotiate_protocol_version_of-answer.ensures _ (search rules) _ (c.ended.ensures.sent z))

pub returns-clause-refused : goal.returns-clause-refused
returns-clause-refused c z =
    let v = to_z w32 (of_z w32 c.args.version) in
    not_negotiated c.args.version v (to_z-of_z c.ranges.version) (map name_of c.args.options.now) c.args.out.now _ _
    (made_not_replied (λ name. name.now) name_of length_cause (λ all. Int32 v ∷ wide_list text_parts all) (negotiation_of v) refl (negotiation_longer v) fronts _ c.map.result c.args.options.now (YieldsList-at c.map.ensures.source (YieldsList-from_slice c.args.options.now cc)) _ c.map.ensures.closure (λ x r q k. (search rules, search rules))
    c.new-window.result c.negotiate_protocol_version_of-answer.new.buf c.args.out.now _ c.new-window.ensures c.negotiate_protocol_version_of-answer.result c.negotiate_protocol_version_of-answer.ensures never_length _ _ (c.ended.ensures.refused z))
