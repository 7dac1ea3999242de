use Rattle.pgp_types.specs.RangeReading.{shown_range}
use Rattle.pgp_value_text.proofs.Common.{ShowsRange, range, range_sound}
use Rattle.pgp_value_text.proofs.Texts.{pushes_read, refused}
use Rattle.pgp_value_text.proofs.range.push_member.Goals as goal

pub returns-in-Ok : goal.returns-in-Ok
returns-in-Ok g c =
    pushes_read range range_sound (ShowsRange c.args.type_oid) (λ t. t) _ c.args.bytes.now (shown_range c.in-Ok.range) _ _ c.push_range.result c.in-Ok.ensures c.push_range.ensures

pub returns-in-Err : goal.returns-in-Err
returns-in-Err g c = refused range range_sound (ShowsRange c.args.type_oid) _ _ c.in-Err.ensures
