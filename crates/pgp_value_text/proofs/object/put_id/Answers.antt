use Rattle.pgp_value_text.proofs.Common.{ap, ◌∙◌, hyphenated_text, lower}
use Rattle.pgp_value_text.proofs.Texts.{tells_same}
use Rattle.pgp_value_text.proofs.object.put_id.Goals as goal

pub returns : goal.returns
returns g c = tells_same _ _ _ _ _ c.put.result (c.encode_lower.ensures.text ∙ ap (hyphenated_text lower) (c.hyphenated.ensures ∙ c.from_bytes.ensures)) c.put.ensures
