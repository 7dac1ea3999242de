use Rattle.pgp_message.proofs.Common.{arith, IsBytes, counted_whole, counted_few, RangeSpelled, RangeRefused, range_at}
use Rattle.pgp_message.proofs.RangeLemmas.{range_reader}
use Rattle.pgp_message.proofs.walk.data_row_ranges.DataRowRanges.over.Goals as goal

pub returns-clause-items : goal.returns-clause-items
returns-clause-items c =
    let each : IsBytes c.args.buf.now = λ i. omega (arith, c.type_inv.buf i) in
    rw c.new.ensures (counted_whole RangeSpelled RangeRefused range_at range_reader c.args.count c.args.buf.now each)

pub returns-clause-few : goal.returns-clause-few
returns-clause-few c =
    let each : IsBytes c.args.buf.now = λ i. omega (arith, c.type_inv.buf i) in
    rw c.new.ensures (counted_few RangeSpelled RangeRefused range_at range_reader c.args.count c.args.buf.now each)
