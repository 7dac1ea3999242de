use Rattle.pgp_message.proofs.Common.{arith, IsBytes, counted_whole, counted_few, NameSpelled, NameRefused}
use Rattle.pgp_message.proofs.walk.options.ProtocolOptions.over.Goals as goal

pub returns-clause-items : goal.returns-clause-items
returns-clause-items g c =
    let each : IsBytes c.args.buf.now = λ i. omega (arith, c.type_inv.buf i) in
    rw c.new.ensures (counted_whole (NameSpelled _) (NameRefused _) _ c.is_read.ensures.grammar c.args.count c.args.buf.now each)

pub returns-clause-few : goal.returns-clause-few
returns-clause-few g c =
    let each : IsBytes c.args.buf.now = λ i. omega (arith, c.type_inv.buf i) in
    rw c.new.ensures (counted_few (NameSpelled _) (NameRefused _) _ c.is_read.ensures.grammar c.args.count c.args.buf.now each)
