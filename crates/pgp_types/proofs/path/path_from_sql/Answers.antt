use Rattle.pgp_types.proofs.Common.{refl, arith, IsBytes, PathReads}
use Rattle.pgp_types.proofs.Appending.{refused_as}
use Rattle.pgp_types.proofs.PathLemmas.{header_refused, path_read, path_few}
use Rattle.pgp_types.proofs.path.path_from_sql.Goals as goal

pub returns-in_err-count-clause-value : goal.returns-in_err-count-clause-value
returns-in_err-count-clause-value c =
    let each : IsBytes c.args.buf.now = λ i. omega (arith, c.type_inv.buf i) in
    refused_as (PathReads c.args.buf.now) _ _ c.from_residual-in_err-count.ensures.1 (header_refused c.args.buf.now c.in_ok-closed.rest.now c.args.buf.now c.in_ok-closed.closed (rw c.in_ok-closed.ensures refl) _ each c.in_err-count.ensures)

pub returns-clause-value : goal.returns-clause-value
returns-clause-value c =
    let each : IsBytes c.args.buf.now = λ i. omega (arith, c.type_inv.buf i) in
    path_read c.args.buf.now c.in_ok-closed.rest.now c.in_ok-count.points.now c.in_ok-closed.closed (rw c.in_ok-closed.ensures refl) c.in_ok-count.count c.in_ok-count.ensures each

pub returns-clause-few : goal.returns-clause-few
returns-clause-few c =
    let each : IsBytes c.args.buf.now = λ i. omega (arith, c.type_inv.buf i) in
    path_few c.args.buf.now c.in_ok-closed.rest.now c.in_ok-count.points.now c.in_ok-closed.closed (rw c.in_ok-closed.ensures refl) c.in_ok-count.count c.in_ok-count.ensures each
