use Rattle.pgp_value_text.proofs.Common.{◌≡◌, ◌<◌, rules, arith, FitsSigned, w32, w64, to_z-of_z}
use Rattle.std.proofs.Common.{unsigned_abs}
use Rattle.pgp_value_text.proofs.Zones.{not_zoned, zoned}
use Rattle.pgp_value_text.proofs.zone.put_zoned.Goals as goal

pub returns-then-not-shown : goal.returns-then-not-shown
returns-then-not-shown g c =
    let time : FitsSigned w64 c.args.v.microseconds = search rules in
    not_zoned _ _ _ c.args.v c.put_clock.result c.in-Ok.shown c.in-Ok.is c.if-not-shown.true (rw (to_z-of_z time) at c.put_clock.ensures)

pub returns-in-Ok-put_zone : goal.returns-in-Ok-put_zone
returns-in-Ok-put_zone g c =
    let time : FitsSigned w64 c.args.v.microseconds = search rules in
    let zone : FitsSigned w32 c.args.v.zone = search rules in
    let is : c.unsigned_abs.result ≡ unsigned_abs c.args.v.zone = rw (to_z-of_z zone) at c.unsigned_abs.ensures.value in
    let small : unsigned_abs c.args.v.zone < 57_600 = omega (arith, c.if-unsigned_abs-ge57600.false, is) in
    zoned _ _ _ c.args.v c.put_clock.result c.in-Ok.shown _ c.in-Ok.is c.if-not-shown.false small (rw (to_z-of_z time) at c.put_clock.ensures) (rw (to_z-of_z zone) at c.in-Ok-put_zone.ensures.ok)
