use Rattle.pgp_message_write.proofs.Common.{Yielded, count_cause, uint16, joined, column_parts, counted_list, description_of, shown_column, length, map, refl, flat_map}
use Rattle.pgp_message_write.proofs.GivenLists.{counted_spelled, counted_view, message_given}
use Rattle.pgp_message_write.proofs.row.row_description_of.Goals as goal

pub returns : goal.returns
returns g c =
    message_given (Yielded g.I.IntoIterator.into_iter_gives g.I.IntoIter.Iterator.next_gives c.args.columns) count_cause (λ all. counted_list (λ x. column_parts (shown_column x)) all) (λ all. counted_list column_parts (map shown_column all)) 84 (λ all. description_of (map shown_column all))
    (counted_view shown_column column_parts) (λ xs. refl) (λ xs. counted_spelled (uint16 (length (map shown_column xs))) (joined (flat_map column_parts (map shown_column xs)))) g.B.Buffer.Lacks (g.B.Buffer.held c.args.buf.now) _ c.list_message_of.result c.list_message_of.ensures
