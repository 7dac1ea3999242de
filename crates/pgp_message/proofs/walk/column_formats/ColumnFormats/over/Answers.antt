use Rattle.pgp_message.proofs.Common.{arith, IsBytes, counted_whole, counted_few, FormatSpelled, FormatRefused, format_at}
use Rattle.pgp_message.proofs.NumberLemmas.{format_reader}
use Rattle.pgp_message.proofs.walk.column_formats.ColumnFormats.over.Goals as goal

pub returns-clause-items : goal.returns-clause-items
returns-clause-items c =
    let each : IsBytes c.args.buf.now = λ i. omega (arith, c.type_inv.buf i) in
    rw c.new.ensures (counted_whole FormatSpelled FormatRefused (λ place. format_at) format_reader c.args.count c.args.buf.now each)

pub returns-clause-few : goal.returns-clause-few
returns-clause-few c =
    let each : IsBytes c.args.buf.now = λ i. omega (arith, c.type_inv.buf i) in
    rw c.new.ensures (counted_few FormatSpelled FormatRefused (λ place. format_at) format_reader c.args.count c.args.buf.now each)
