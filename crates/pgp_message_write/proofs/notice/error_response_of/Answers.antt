use Rattle.pgp_message_write.proofs.Common.{Yielded, ErrorResponse, uncounted, field_parts, marked_list, fields_of, shown_field, map, refl, flat_map}
use Rattle.pgp_message_write.proofs.GivenLists.{marked_view, message_given}
use Rattle.pgp_message_write.proofs.Written.{marked_joined}
use Rattle.pgp_message_write.proofs.notice.error_response_of.Goals as goal

pub returns : goal.returns
returns g c =
    message_given (Yielded g.I.IntoIterator.into_iter_gives g.I.IntoIter.Iterator.next_gives c.args.fields) uncounted (λ all. marked_list (λ x. field_parts (shown_field x)) all) (λ all. marked_list field_parts (map shown_field all)) 69 (λ all. ErrorResponse (fields_of (map shown_field all)))
    (marked_view shown_field field_parts) (λ xs. refl) (λ xs. marked_joined (flat_map field_parts (map shown_field xs))) g.B.Buffer.Lacks (g.B.Buffer.held c.args.buf.now) _ c.list_message_of.result c.list_message_of.ensures
