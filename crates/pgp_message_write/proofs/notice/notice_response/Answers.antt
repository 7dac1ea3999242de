use Rattle.pgp_message_write.proofs.Common.{map, [], ◌∷◌, None, refl, flat_map, Byte, NoticeResponse, field_parts, fields_of, shown_field}
use Rattle.pgp_message_write.proofs.Written.{list_written, marked_joined, viewed}
use Rattle.pgp_message_write.proofs.notice.notice_response.Goals as goal

pub returns : goal.returns
returns g c =
    let fields = c.args.fields.now in
    let all = map shown_field fields in
    list_written (NoticeResponse (fields_of all)) None _ _ _ _ _ c.list_message.result refl (viewed shown_field field_parts fields [] (Byte 0 ∷ [])) (marked_joined (flat_map field_parts all)) c.list_message.ensures
