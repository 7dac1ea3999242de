use Rattle.pgp_types.proofs.Common.{arith, ◌++◌, length-append, box_bytes, point_bytes}
use Rattle.pgp_types.proofs.Appending.{part_refused, handed_on}
use Rattle.pgp_types.proofs.geometry.box_to_sql.Goals as goal

pub returns-in-Err : goal.returns-in-Err
returns-in-Err g c =
    part_refused (box_bytes (record { upper_right = record { x = c.args.x1; y = c.args.y1 }; lower_left = record { x = c.args.x2; y = c.args.y2 } })) (point_bytes (record { x = c.args.x2; y = c.args.y2 })) _ _ (g.B.Buffer.held c.args.buf.now) _ _ _ c.len-start.result c.in-Err.refused c.in-Err.ensures c.in_ok-point_to_sql.ensures.1 c.len-start.ensures.value c.truncate.ensures.bytes c.truncate.ensures.kept
    (omega (arith, length-append (point_bytes (record { x = c.args.x1; y = c.args.y1 })) (point_bytes (record { x = c.args.x2; y = c.args.y2 }))))

pub returns-in_err-point_to_sql : goal.returns-in_err-point_to_sql
returns-in_err-point_to_sql g c =
    let first = point_bytes (record { x = c.args.x1; y = c.args.y1 }) in
    let second = point_bytes (record { x = c.args.x2; y = c.args.y2 }) in
    handed_on c.from_residual.result _ first (first ++ second) (g.B.Buffer.held c.args.buf.now) _ c.from_residual.ensures.0 c.from_residual.ensures.1 c.in_err-point_to_sql.ensures (omega (arith, length-append first second))
