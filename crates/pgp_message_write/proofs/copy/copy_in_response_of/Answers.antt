use Rattle.pgp_message_write.proofs.Common.{Yielded, count_cause, uint16, Byte, joined, CopyInResponse, counted_list, format_parts, formats_of, length, refl, ap, ◌∷◌, flat_map}
use Rattle.pgp_message_write.proofs.GivenLists.{counted_spelled, message_given}
use Rattle.pgp_message_write.proofs.copy.copy_in_response_of.Goals as goal

pub returns : goal.returns
returns g c =
    message_given (Yielded g.I.IntoIterator.into_iter_gives g.I.IntoIter.Iterator.next_gives c.args.column_formats) count_cause (λ all. Byte c.args.format ∷ counted_list format_parts all) (λ all. Byte c.args.format ∷ counted_list format_parts all) 71 (λ all. CopyInResponse (formats_of c.args.format all))
    (λ xs. refl) (λ xs. refl) (λ xs. ap (λ z. c.args.format ∷ z) (counted_spelled (uint16 (length xs)) (joined (flat_map format_parts xs)))) g.B.Buffer.Lacks (g.B.Buffer.held c.args.buf.now) _ c.list_message_of.result c.list_message_of.ensures
