use Rattle.pgp_types.proofs.Common.{arith, IsBytes}
use Rattle.pgp_types.proofs.RangeLemmas.{range_answers}
use Rattle.pgp_types.proofs.range.range_from_sql.Goals as goal

pub returns : goal.returns
returns c =
    let each : IsBytes c.args.buf.now = λ i. omega (arith, c.type_inv.buf i) in
    range_answers c.args.buf.now c.range_at.result each c.range_at.ensures
