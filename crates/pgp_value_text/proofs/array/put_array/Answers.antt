use Rattle.pgp_value_text.proofs.Common.{◌≡◌, false, sym, ◌∙◌, Shows, ShowsArray, array, is_apart}
use Rattle.pgp_value_text.proofs.Texts.{tells_if}
use Rattle.pgp_value_text.proofs.array.put_array.Goals as goal

pub returns-else-is_apart : goal.returns-else-is_apart
returns-else-is_apart g c =
    tells_if _ _ _ (is_apart c.args.type_oid ≡ false) (Shows array ShowsArray c.args.bytes.now) c.put_read.result (sym c.is_apart.ensures ∙ c.if-is_apart.false) c.put_read.ensures
