use Rattle.std.proofs.Common.{◌∙◌, sym, subst, ◌*◌, ◌^◌, ◌++◌, arith}
use Rattle.pgp_value_text.proofs.Common.{ShowsFloat, sign_text, binary32}
use Rattle.pgp_value_text.proofs.Floats.{marked_so, shows_value}
use Rattle.pgp_value_text.proofs.Texts.{tells_one}
use Rattle.pgp_value_text.specs.Tens.{shown_text}
use Rattle.pgp_value_text.proofs.float.put_sized_single.Goals as goal

pub returns : goal.returns
returns g c =
    let size = shown_text c.sized.result in
    let text = sign_text c.args.negative ++ size in
    let shown = marked_so binary32 c.args.x text c.as_str.result.now c.as_str-2.result.now c.as_str-3.result.now c.is_single.result (c.as_str.ensures.value ∙ c.signed_text-shown.ensures) (c.as_str-2.ensures.value ∙ c.signed_text-shown.ensures) c.is_single.ensures (c.as_str-3.ensures.value ∙ c.marked_text-marked.ensures) in
    tells_one _ _ _ _ (ShowsFloat binary32 c.args.x) c.put.result
    (subst (ShowsFloat binary32 c.args.x) (sym shown) (shows_value binary32 c.args.x c.args.negative (c.args.num * 2 ^ c.args.up) (2 ^ 149) (omega arith) c.requires.value size c.sized.ensures.shows)) c.put.ensures
