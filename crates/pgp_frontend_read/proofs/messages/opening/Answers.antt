use Rattle.pgp_frontend_read.proofs.Common.{rules, arith, false, None, ◌≤◌, length, IsBytes, IsFront, view}
use Rattle.pgp_frontend_read.proofs.Steps.{step_fault, step_opened, step_stopped}
use Rattle.pgp_frontend_read.proofs.messages.opening.Goals as goal

pub returns-in-Err : goal.returns-in-Err
returns-in-Err c = λ kind. step_fault kind false c.args.bytes.now c.in-Err.e c.in-Err.ensures

pub returns-in-Ok : goal.returns-in-Ok
returns-in-Ok c =
    let each : IsBytes c.args.bytes.now = λ i. omega (arith, c.type_inv.bytes i) in
    let front : IsFront None c.in-Ok-Some.payload.now c.in-Ok-Some.rest.now c.args.bytes.now × (4 ≤ length c.in-Ok-Some.payload.now) = search rules in
    λ kind. step_opened kind c.args.bytes.now c.in-Ok-Some.payload.now c.in-Ok-Some.rest.now each front.0 (view c.in-Ok.message) c.is_startup-opened.result c.is_startup-opened.ensures (search rules)

pub returns-in-Err-packet : goal.returns-in-Err-packet
returns-in-Err-packet c =
    let each : IsBytes c.args.bytes.now = λ i. omega (arith, c.type_inv.bytes i) in
    let front : IsFront None c.in-Ok-Some.payload.now c.in-Ok-Some.rest.now c.args.bytes.now × (4 ≤ length c.in-Ok-Some.payload.now) = search rules in
    λ kind. step_stopped kind c.args.bytes.now c.in-Ok-Some.payload.now c.in-Ok-Some.rest.now each front.0 c.in-Err-packet.e front.1 (search rules)
