use Rattle.pgp_message_write.proofs.Common.{Yielded, int32, Int32, Authentication, AuthenticationSasl, uncounted, marked_list, text_parts, names_of, map, refl, ap, pos, ◌∷◌, ◌++◌, flat_map}
use Rattle.pgp_message_write.proofs.GivenLists.{marked_view, message_given}
use Rattle.pgp_message_write.proofs.Written.{marked_joined}
use Rattle.pgp_message_write.proofs.login.authentication_sasl_of.Goals as goal

pub returns : goal.returns
returns g c =
    message_given (Yielded g.I.IntoIterator.into_iter_gives g.I.IntoIter.Iterator.next_gives c.args.mechanisms) uncounted (λ all. Int32 (pos 10) ∷ marked_list (λ name. text_parts name.now) all) (λ all. Int32 (pos 10) ∷ marked_list text_parts (map (λ name. name.now) all)) 82 (λ all. Authentication (AuthenticationSasl (names_of (map (λ name. name.now) all))))
    (λ xs. ap (λ ps. Int32 (pos 10) ∷ ps) (marked_view (λ name. name.now) text_parts xs)) (λ xs. refl) (λ xs. ap (λ z. int32 (pos 10) ++ z) (marked_joined (flat_map text_parts (map (λ name. name.now) xs)))) g.B.Buffer.Lacks (g.B.Buffer.held c.args.buf.now) _ c.list_message_of.result c.list_message_of.ensures
