use Rattle.pgp_value_text.proofs.Common.{ShowsFloat, sym, ◌∙◌, binary32}
use Rattle.pgp_value_text.proofs.Floats.{shows_negative, shows_positive}
use Rattle.pgp_value_text.proofs.Texts.{tells_one}
use Rattle.pgp_value_text.proofs.float.put_single.Goals as goal

pub returns-then-is_finite : goal.returns-then-is_finite
returns-then-is_finite g c = c.put_finite_single.ensures

pub returns-then-is_sign_negative : goal.returns-then-is_sign_negative
returns-then-is_sign_negative g c =
    tells_one _ _ _ _ (ShowsFloat binary32 c.args.x) c.put.result
    (shows_negative binary32 c.args.x c.requires.number (sym c.is_finite.ensures.value ∙ c.if-is_finite.false) (sym c.is_sign_negative.ensures ∙ c.if-is_sign_negative.true)) c.put.ensures

pub returns-else-is_sign_negative : goal.returns-else-is_sign_negative
returns-else-is_sign_negative g c =
    tells_one _ _ _ _ (ShowsFloat binary32 c.args.x) c.put-else-is_sign_negative.result
    (shows_positive binary32 c.args.x c.requires.number (sym c.is_finite.ensures.value ∙ c.if-is_finite.false) (sym c.is_sign_negative.ensures ∙ c.if-is_sign_negative.false)) c.put-else-is_sign_negative.ensures
