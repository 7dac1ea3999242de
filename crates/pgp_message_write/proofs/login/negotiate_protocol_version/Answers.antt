use Rattle.pgp_message_write.proofs.Common.{map, length, [], ◌∷◌, ◌++◌, ◌≡◌, ap, ◌∙◌, sym, pos, flat_map, length-map, to_z-of_z, length_cause, int32, Int32, Rest, text_parts, with_list, negotiation_of}
use Rattle.pgp_message_write.proofs.Lists.{joined-append}
use Rattle.pgp_message_write.proofs.Written.{list_written, viewed}
use Rattle.pgp_message_write.proofs.login.negotiate_protocol_version.Goals as goal

pub returns : goal.returns
returns g c =
    let options = c.args.options.now in
    let texts = map (λ text. text.now) options in
    let version = c.args.version in
    let many : length texts ≡ length options = length-map options (λ text. text.now) in
    list_written (negotiation_of version texts) _ _ _ g.B.Buffer.Lacks (g.B.Buffer.held c.args.buf.now) (g.B.Buffer.held c.list_message.new.buf) c.list_message.result (ap length_cause many ∙ c.in_ok-count.ensures.ok.0)
    (ap (λ v. with_list (Int32 v ∷ Rest c.in_ok-count.count ∷ []) (flat_map (λ text. text_parts text.now) options) []) (to_z-of_z c.ranges.version)
    ∙ (ap (λ count. with_list (Int32 version ∷ Rest count ∷ []) (flat_map (λ text. text_parts text.now) options) []) (c.in_ok-count.ensures.ok.1 ∙ ap (λ n. int32 (pos n)) (sym many)) ∙ viewed (λ text. text.now) text_parts options (Int32 version ∷ Rest (int32 (pos (length texts))) ∷ []) []))
    (ap (λ z. int32 version ++ (int32 (pos (length texts)) ++ z)) (joined-append (flat_map text_parts texts) [])) c.list_message.ensures
