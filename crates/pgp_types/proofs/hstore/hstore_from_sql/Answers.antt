use Rattle.pgp_types.proofs.Common.{arith, IsBytes, HstoreReads}
use Rattle.pgp_types.proofs.Appending.{refused_as}
use Rattle.pgp_types.proofs.HstoreLemmas.{hstore_read, hstore_few, hstore_refused}
use Rattle.pgp_types.proofs.hstore.hstore_from_sql.Goals as goal

pub returns-in_err-count-clause-value : goal.returns-in_err-count-clause-value
returns-in_err-count-clause-value c =
    let each : IsBytes c.args.buf.now = λ i. omega (arith, c.type_inv.buf i) in
    refused_as (HstoreReads c.args.buf.now) _ _ c.from_residual.ensures.1 (hstore_refused c.args.buf.now _ each c.in_err-count.ensures)

pub returns-clause-value : goal.returns-clause-value
returns-clause-value c =
    let each : IsBytes c.args.buf.now = λ i. omega (arith, c.type_inv.buf i) in
    rw c.new.ensures (hstore_read c.args.buf.now c.in_ok-count.count c.in_ok-count.entries.now each c.in_ok-count.ensures)

pub returns-clause-few : goal.returns-clause-few
returns-clause-few c =
    let each : IsBytes c.args.buf.now = λ i. omega (arith, c.type_inv.buf i) in
    rw c.new.ensures (hstore_few c.args.buf.now c.in_ok-count.count c.in_ok-count.entries.now each c.in_ok-count.ensures)
