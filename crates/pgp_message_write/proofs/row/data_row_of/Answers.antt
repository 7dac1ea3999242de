use Rattle.pgp_message_write.proofs.Common.{Yielded, count_cause, uint16, joined, counted_list, shown, value_parts, row_of, length, map, refl, flat_map}
use Rattle.pgp_message_write.proofs.GivenLists.{counted_spelled, counted_view, message_given}
use Rattle.pgp_message_write.proofs.row.data_row_of.Goals as goal

pub returns : goal.returns
returns g c =
    message_given (Yielded g.I.IntoIterator.into_iter_gives g.I.IntoIter.Iterator.next_gives c.args.values) count_cause (λ vs. counted_list (λ v. value_parts (shown v)) vs) (λ vs. counted_list value_parts (map shown vs)) 68 (λ vs. row_of (map shown vs))
    (counted_view shown value_parts) (λ xs. refl) (λ xs. counted_spelled (uint16 (length (map shown xs))) (joined (flat_map value_parts (map shown xs)))) g.B.Buffer.Lacks (g.B.Buffer.held c.args.buf.now) _ c.list_message_of.result c.list_message_of.ensures
