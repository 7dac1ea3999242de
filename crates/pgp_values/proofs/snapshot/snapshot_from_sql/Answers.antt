use Rattle.pgp_values.proofs.Common.{arith, IsBytes, refused_as, SnapshotReads}
use Rattle.pgp_values.proofs.SnapshotLemmas.{snapshot_read, snapshot_few, snapshot_refused}
use Rattle.pgp_values.proofs.snapshot.snapshot_from_sql.Goals as goal

pub returns-in_err-count-clause-value : goal.returns-in_err-count-clause-value
returns-in_err-count-clause-value c =
    let each : IsBytes c.args.buf.now = λ i. omega (arith, c.type_inv.buf i) in
    refused_as (SnapshotReads c.args.buf.now) _ _ c.from_residual.ensures.1 (snapshot_refused c.args.buf.now _ each c.in_err-count.ensures)

pub returns-clause-value : goal.returns-clause-value
returns-clause-value c =
    let each : IsBytes c.args.buf.now = λ i. omega (arith, c.type_inv.buf i) in
    snapshot_read c.args.buf.now c.in_ok-count.count c.in_ok-count.xmin c.in_ok-count.xmax c.in_ok-count.running.now each c.in_ok-count.ensures

pub returns-clause-few : goal.returns-clause-few
returns-clause-few c =
    let each : IsBytes c.args.buf.now = λ i. omega (arith, c.type_inv.buf i) in
    snapshot_few c.args.buf.now c.in_ok-count.count c.in_ok-count.xmin c.in_ok-count.xmax c.in_ok-count.running.now each c.in_ok-count.ensures
