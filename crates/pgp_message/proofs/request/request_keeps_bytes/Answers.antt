use Rattle.pgp_message.proofs.Common.{rules, arith, ◌≤◌, refl, inl, inr, IsBytes}
use Rattle.pgp_message.proofs.Families.{code_takes}
use Rattle.pgp_message.proofs.request.request_keeps_bytes.Goals as goal

pub returns-in-Ok-eq8-default-clause-keeps : goal.returns-in-Ok-eq8-default-clause-keeps
returns-in-Ok-eq8-default-clause-keeps c =
    let each : IsBytes c.args.payload.now = λ i. omega (arith, c.type_inv.payload i) in
    let code = code_takes c.args.payload.now _ each c.in-Ok-eq8-default.ensures in
    λ _. inr (refl, _, _, code.parts, code.fits, inl c.in-Ok-eq8-default.field-0-0-test)

pub returns-in-Ok-eq8-default-2-clause-keeps : goal.returns-in-Ok-eq8-default-2-clause-keeps
returns-in-Ok-eq8-default-2-clause-keeps c =
    let each : IsBytes c.args.payload.now = λ i. omega (arith, c.type_inv.payload i) in
    let code = code_takes c.args.payload.now _ each c.in-Ok-eq8-default.ensures in
    let least : 10 ≤ c.in-Ok-eq8-default.field-0-0 = search rules in
    λ _. inr (refl, _, _, code.parts, code.fits, inr (least, omega (arith, c.in-Ok-eq8-default.field-0-0-test)))
