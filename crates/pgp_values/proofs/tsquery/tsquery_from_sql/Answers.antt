use Rattle.pgp_values.proofs.Common.{arith, IsBytes, refused_as, ListReads, query_item}
use Rattle.pgp_values.proofs.ListLemmas.{list_read, list_few, list_refused}
use Rattle.pgp_values.proofs.QueryLemmas.{query_is_item}
use Rattle.pgp_values.proofs.tsquery.tsquery_from_sql.Goals as goal

pub returns-in_err-count-clause-value : goal.returns-in_err-count-clause-value
returns-in_err-count-clause-value c =
    let each : IsBytes c.args.buf.now = λ i. omega (arith, c.type_inv.buf i) in
    refused_as (ListReads query_item.part c.args.buf.now) _ _ c.from_residual.ensures.1 (list_refused query_item c.args.buf.now _ each c.in_err-count.ensures)

pub returns-clause-value : goal.returns-clause-value
returns-clause-value c =
    let each : IsBytes c.args.buf.now = λ i. omega (arith, c.type_inv.buf i) in
    rw c.new.ensures (list_read query_item query_is_item c.args.buf.now c.in_ok-count.count c.in_ok-count.items.now each c.in_ok-count.ensures)

pub returns-clause-few : goal.returns-clause-few
returns-clause-few c =
    let each : IsBytes c.args.buf.now = λ i. omega (arith, c.type_inv.buf i) in
    rw c.new.ensures (list_few query_item query_is_item c.args.buf.now c.in_ok-count.count c.in_ok-count.items.now each c.in_ok-count.ensures)
