use Rattle.pgp_value_text.proofs.Common.{◌≡◌, bytea, hex_text, As, Shows}
use Rattle.pgp_value_text.proofs.Texts.{tells_if}
use Rattle.pgp_value_text.proofs.plain.put_bytea.Goals as goal

pub returns-then-type_oid-eq17 : goal.returns-then-type_oid-eq17
returns-then-type_oid-eq17 g c =
    tells_if _ _ _ (c.args.type_oid ≡ 17) (Shows bytea (As hex_text) c.args.bytes.now) c.put_bytes.result c.if-type_oid-eq17.true c.put_bytes.ensures
