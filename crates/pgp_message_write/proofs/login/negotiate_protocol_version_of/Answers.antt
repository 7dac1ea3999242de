use Rattle.pgp_message_write.proofs.Common.{Yielded, length_cause, int32, Int32, joined, wide_list, text_parts, negotiation_of, length, map, refl, ap, pos, ◌∷◌, ◌++◌, ◌∙◌, to_z-of_z, w32, cast_signed, cast_unsigned, flat_map}
use Rattle.pgp_message_write.proofs.GivenLists.{counted_spelled, wide_view, message_given}
use Rattle.pgp_message_write.proofs.login.negotiate_protocol_version_of.Goals as goal

pub returns : goal.returns
returns g c =
    message_given (Yielded g.I.IntoIterator.into_iter_gives g.I.IntoIter.Iterator.next_gives c.args.options) length_cause (λ all. Int32 (cast_signed w32 (cast_unsigned w32 c.args.version)) ∷ wide_list (λ text. text_parts text.now) all) (λ all. Int32 c.args.version ∷ wide_list text_parts (map (λ text. text.now) all)) 118 (λ all. negotiation_of c.args.version (map (λ text. text.now) all))
    (λ xs. ap (λ v. Int32 v ∷ wide_list (λ text. text_parts text.now) xs) (to_z-of_z c.ranges.version) ∙ ap (λ ps. Int32 c.args.version ∷ ps) (wide_view (λ text. text.now) text_parts xs)) (λ xs. refl) (λ xs. ap (λ z. int32 c.args.version ++ z) (counted_spelled (int32 (pos (length (map (λ text. text.now) xs)))) (joined (flat_map text_parts (map (λ text. text.now) xs))))) g.B.Buffer.Lacks (g.B.Buffer.held c.args.buf.now) _ c.list_message_of.result c.list_message_of.ensures
