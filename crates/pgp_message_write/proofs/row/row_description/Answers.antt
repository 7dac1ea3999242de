use Rattle.pgp_message_write.proofs.Common.{length, map, [], ◌∷◌, ap, ◌∙◌, flat_map, uint16, Rest, column_parts, with_list, description_of, shown_column}
use Rattle.pgp_message_write.proofs.Written.{list_written, counted_joined, few, viewed_counted}
use Rattle.pgp_message_write.proofs.row.row_description.Goals as goal

pub returns : goal.returns
returns g c =
    let columns = c.args.columns.now in
    let all = map shown_column columns in
    list_written (description_of all) _ _ _ _ _ _ c.list_message.result (few shown_column column_parts columns c.in_ok-count.ensures.ok.0)
    (ap (λ count. with_list (Rest count ∷ []) (flat_map (λ column. column_parts (shown_column column)) columns) []) c.in_ok-count.ensures.ok.1 ∙ viewed_counted shown_column column_parts columns)
    (counted_joined (uint16 (length all)) (flat_map column_parts all)) c.list_message.ensures
