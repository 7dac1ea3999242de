use Rattle.std.proofs.Common.{◌≡◌, ◌++◌, ◌∙◌, subst}
use Rattle.pgp_value_text.proofs.Common.{OnOk, string_bytes, indexes_text, to_z-of_z}
use Rattle.pgp_value_text.proofs.rows.push_indexes.Goals as goal

pub returns-clause-ok : goal.returns-clause-ok
returns-clause-ok g c =
    let text : string_bytes c.push_shown.new.text ≡ indexes_text c.args.first c.args.last =
    rw (to_z-of_z c.ranges.first, to_z-of_z c.ranges.last, c.new-shown.ensures.bytes) at c.in_ok-push_shown.ensures.bytes in
    subst (λ t. OnOk c.append.result (c.append.new.buf.items ≡ c.args.out.now.items ++ t)) (c.as_bytes.ensures.value ∙ text) c.append.ensures.ok
