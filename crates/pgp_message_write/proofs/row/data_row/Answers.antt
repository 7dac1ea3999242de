use Rattle.pgp_message_write.proofs.Common.{length, map, [], ◌∷◌, ap, ◌∙◌, flat_map, uint16, Rest, shown, value_parts, with_list, row_of}
use Rattle.pgp_message_write.proofs.Written.{list_written, counted_joined, few, viewed_counted}
use Rattle.pgp_message_write.proofs.row.data_row.Goals as goal

pub returns : goal.returns
returns g c =
    let values = c.args.values.now in
    let vs = map shown values in
    list_written (row_of vs) _ _ _ _ _ _ c.list_message.result (few shown value_parts values c.in_ok-count.ensures.ok.0)
    (ap (λ count. with_list (Rest count ∷ []) (flat_map (λ value. value_parts (shown value)) values) []) c.in_ok-count.ensures.ok.1 ∙ viewed_counted shown value_parts values)
    (counted_joined (uint16 (length vs)) (flat_map value_parts vs)) c.list_message.ensures
