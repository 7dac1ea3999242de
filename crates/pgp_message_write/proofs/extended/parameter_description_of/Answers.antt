use Rattle.pgp_message_write.proofs.Common.{Yielded, count_cause, uint16, joined, counted_list, type_parts, types_of, length, refl, flat_map}
use Rattle.pgp_message_write.proofs.GivenLists.{counted_spelled, message_given}
use Rattle.pgp_message_write.proofs.extended.parameter_description_of.Goals as goal

pub returns : goal.returns
returns g c =
    message_given (Yielded g.I.IntoIterator.into_iter_gives g.I.IntoIter.Iterator.next_gives c.args.types) count_cause (λ all. counted_list type_parts all) (λ all. counted_list type_parts all) 116 (λ all. types_of all)
    (λ xs. refl) (λ xs. refl) (λ xs. counted_spelled (uint16 (length xs)) (joined (flat_map type_parts xs))) g.B.Buffer.Lacks (g.B.Buffer.held c.args.buf.now) _ c.list_message_of.result c.list_message_of.ensures
