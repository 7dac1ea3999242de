use Rattle.pgp_message.proofs.Common.{arith, IsBytes, marked_whole, marked_few, NameSpelled, NameRefused}
use Rattle.pgp_message.proofs.walk.mechanisms.SaslMechanisms.over.Goals as goal

pub returns-clause-items : goal.returns-clause-items
returns-clause-items g c =
    let each : IsBytes c.args.buf.now = λ i. omega (arith, c.type_inv.buf i) in
    marked_whole (NameSpelled _) (NameRefused _) _ c.is_read.ensures.grammar c.args.buf.now each

pub returns-clause-few : goal.returns-clause-few
returns-clause-few g c =
    let each : IsBytes c.args.buf.now = λ i. omega (arith, c.type_inv.buf i) in
    marked_few (NameSpelled _) (NameRefused _) _ c.is_read.ensures.grammar c.args.buf.now each
