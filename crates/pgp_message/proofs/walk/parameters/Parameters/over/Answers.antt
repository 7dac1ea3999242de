use Rattle.pgp_message.proofs.Common.{arith, IsBytes, counted_whole, counted_few, TypeSpelled, TypeRefused, type_at}
use Rattle.pgp_message.proofs.NumberLemmas.{type_reader}
use Rattle.pgp_message.proofs.walk.parameters.Parameters.over.Goals as goal

pub returns-clause-items : goal.returns-clause-items
returns-clause-items c =
    let each : IsBytes c.args.buf.now = λ i. omega (arith, c.type_inv.buf i) in
    rw c.new.ensures (counted_whole TypeSpelled TypeRefused (λ place. type_at) type_reader c.args.count c.args.buf.now each)

pub returns-clause-few : goal.returns-clause-few
returns-clause-few c =
    let each : IsBytes c.args.buf.now = λ i. omega (arith, c.type_inv.buf i) in
    rw c.new.ensures (counted_few TypeSpelled TypeRefused (λ place. type_at) type_reader c.args.count c.args.buf.now each)
