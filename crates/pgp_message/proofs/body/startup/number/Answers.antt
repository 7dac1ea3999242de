use Rattle.pgp_message.proofs.Common.{rules, arith, ◌<◌, length, IsBytes}
use Rattle.pgp_message.proofs.Keys.{key_number}
use Rattle.pgp_message.proofs.body.startup.number.Goals as goal

pub returns-clause-number : goal.returns-clause-number
returns-clause-number c =
    let each : IsBytes c.args.bytes.now = λ i. omega (arith, c.type_inv.bytes i) in
    let none : length c.in-Ok.rest.now < 1 = search rules in
    key_number c.args.bytes.now _ each c.in-Ok.ensures none
