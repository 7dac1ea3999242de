use Rattle.pgp_value_text.proofs.Common.{true, false, sym, ◌∙◌}
use Rattle.pgp_value_text.proofs.Written.{tells_instant, zone_if}
use Rattle.pgp_value_text.proofs.moment.put_moment.Goals as goal

pub returns-then-has_zone : goal.returns-then-has_zone
returns-then-has_zone g c =
    tells_instant _ _ _ _ _ c.args.v c.timestamptz_to_text.result c.told.result (zone_if c.args.type_oid true (sym c.has_zone.ensures ∙ c.if-has_zone.true)) c.timestamptz_to_text.ensures c.told.ensures

pub returns-else-has_zone : goal.returns-else-has_zone
returns-else-has_zone g c =
    tells_instant _ _ _ _ _ c.args.v c.timestamp_to_text.result c.told-else-has_zone.result (zone_if c.args.type_oid false (sym c.has_zone.ensures ∙ c.if-has_zone.false)) c.timestamp_to_text.ensures c.told-else-has_zone.ensures
