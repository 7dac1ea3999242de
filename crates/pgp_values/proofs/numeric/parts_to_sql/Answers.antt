use Rattle.pgp_values.proofs.Common.{arith, ◌++◌, length-append, to_z-of_z, int16, uint16, part_refused, handed_on}
use Rattle.pgp_values.proofs.numeric.parts_to_sql.Goals as goal

pub returns-in-Err : goal.returns-in-Err
returns-in-Err g c =
    let front = uint16 c.args.count ++ (int16 c.args.weight ++ uint16 c.args.sign) in
    let behind = uint16 c.args.scale ++ c.args.digits.now in
    let first = rw (to_z-of_z c.ranges.weight) at c.in_ok-front_to_sql.ensures.1 in
    part_refused (front ++ behind) behind front _ (g.B.Buffer.held c.args.buf.now) _ _ _ c.len-start.result c.in-Err.refused c.in-Err.ensures first c.len-start.ensures.value c.truncate.ensures.bytes c.truncate.ensures.kept
    (omega (arith, length-append front behind))

pub returns-in_err-front_to_sql : goal.returns-in_err-front_to_sql
returns-in_err-front_to_sql g c =
    let front = uint16 c.args.count ++ (int16 c.args.weight ++ uint16 c.args.sign) in
    let behind = uint16 c.args.scale ++ c.args.digits.now in
    let first = rw (to_z-of_z c.ranges.weight) at c.in_err-front_to_sql.ensures in
    handed_on c.from_residual.result _ front (front ++ behind) (g.B.Buffer.held c.args.buf.now) _ c.from_residual.ensures.0 c.from_residual.ensures.1 first (omega (arith, length-append front behind))
