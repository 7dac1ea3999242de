use Rattle.pgp_values.proofs.Common.{arith, ◌++◌, length-append, part_refused, handed_on}
use Rattle.pgp_values.proofs.codec.append_three.Goals as goal

pub returns-in-Err : goal.returns-in-Err
returns-in-Err g c =
    let front = c.args.front.now in
    let behind = c.args.middle.now ++ c.args.rest.now in
    part_refused (front ++ behind) behind front _ (g.B.Buffer.held c.args.buf.now) _ _ _ c.len-start.result c.in-Err.refused c.in-Err.ensures c.in_ok-append.ensures.1 c.len-start.ensures.value c.truncate.ensures.bytes c.truncate.ensures.kept
    (omega (arith, length-append front behind))

pub returns-in_err-append : goal.returns-in_err-append
returns-in_err-append g c =
    let front = c.args.front.now in
    let behind = c.args.middle.now ++ c.args.rest.now in
    handed_on c.from_residual.result _ front (front ++ behind) (g.B.Buffer.held c.args.buf.now) _ c.from_residual.ensures.0 c.from_residual.ensures.1 c.in_err-append.ensures (omega (arith, length-append front behind))
