use Rattle.pgp_message.proofs.Common.{arith, IsBytes, counted_whole, counted_few, ColumnSpelled, ColumnRefused, column_at}
use Rattle.pgp_message.proofs.FieldLemmas.{column_reader}
use Rattle.pgp_message.proofs.walk.fields.Fields.over.Goals as goal

pub returns-clause-items : goal.returns-clause-items
returns-clause-items g c =
    let each : IsBytes c.args.buf.now = λ i. omega (arith, c.type_inv.buf i) in
    rw c.new.ensures (counted_whole (ColumnSpelled _) (ColumnRefused _) (λ place. column_at _) (column_reader _ _ c.is_read.ensures.grammar) c.args.count c.args.buf.now each)

pub returns-clause-few : goal.returns-clause-few
returns-clause-few g c =
    let each : IsBytes c.args.buf.now = λ i. omega (arith, c.type_inv.buf i) in
    rw c.new.ensures (counted_few (ColumnSpelled _) (ColumnRefused _) (λ place. column_at _) (column_reader _ _ c.is_read.ensures.grammar) c.args.count c.args.buf.now each)
