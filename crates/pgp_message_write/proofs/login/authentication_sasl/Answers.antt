use Rattle.pgp_message_write.proofs.Common.{map, [], ◌∷◌, ◌++◌, None, refl, ap, pos, flat_map, int32, Byte, Int32, Authentication, AuthenticationSasl, text_parts, names_of}
use Rattle.pgp_message_write.proofs.Written.{list_written, marked_joined, viewed}
use Rattle.pgp_message_write.proofs.login.authentication_sasl.Goals as goal

pub returns : goal.returns
returns g c =
    let mechanisms = c.args.mechanisms.now in
    let names = map (λ name. name.now) mechanisms in
    list_written (Authentication (AuthenticationSasl (names_of names))) None _ _ _ _ _ c.list_message.result refl (viewed (λ name. name.now) text_parts mechanisms (Int32 (pos 10) ∷ []) (Byte 0 ∷ []))
    (ap (λ z. int32 (pos 10) ++ z) (marked_joined (flat_map text_parts names))) c.list_message.ensures
