use Rattle.pgp_frontend_read.proofs.Common.{rules, arith, true, IsBytes, kind_view, view}
use Rattle.pgp_frontend_read.proofs.Steps.{step_fault, step_taken, step_skipped}
use Rattle.pgp_frontend_read.proofs.messages.tagged.Goals as goal

pub returns-in-Err : goal.returns-in-Err
returns-in-Err c = step_fault (kind_view c.args.kind) true c.args.bytes.now c.in-Err.e c.in-Err.ensures

pub returns-in-Ok : goal.returns-in-Ok
returns-in-Ok c =
    let each : IsBytes c.args.bytes.now = λ i. omega (arith, c.type_inv.bytes i) in
    step_taken (kind_view c.args.kind) c.args.bytes.now c.in-Ok-Some.payload.now c.in-Ok-Some.rest.now c.in-Ok-Some.tag each (search rules) (view c.in-Ok.message) (search rules)

pub returns-in-Err-body : goal.returns-in-Err-body
returns-in-Err-body c =
    let each : IsBytes c.args.bytes.now = λ i. omega (arith, c.type_inv.bytes i) in
    step_skipped (kind_view c.args.kind) c.args.bytes.now c.in-Ok-Some.payload.now c.in-Ok-Some.rest.now c.in-Ok-Some.tag each (search rules) c.in-Err-body.e (search rules)
