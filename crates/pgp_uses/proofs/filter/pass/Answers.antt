use Rattle.pgp_uses.proofs.Common.{rules, arith, ◌+◌, nat_abs, IsBytes}
use Rattle.pgp_uses.proofs.Passed.{passes_frame, lacks_frame}
use Rattle.pgp_uses.proofs.filter.pass.Goals as goal

pub returns-in-Ok : goal.returns-in-Ok
returns-in-Ok g c =
    let received = c.args.received.now in
    let each : IsBytes received = λ i. omega (arith, c.type_inv.received i) in
    passes_frame c.args.limit received c.in-Ok-Some.header _ _ _ each (search rules) (search rules) (search rules) (search rules) (search rules) (search rules)

pub returns-in-Err-append : goal.returns-in-Err-append
returns-in-Err-append g c =
    (search rules, lacks_frame g.B.Buffer.Lacks c.args.limit c.args.received.now c.in-Ok-Some.header (nat_abs c.in-Ok-Some.header.len + 1) _ (search rules) (search rules) (search rules) (search rules) (search rules) (search rules))
