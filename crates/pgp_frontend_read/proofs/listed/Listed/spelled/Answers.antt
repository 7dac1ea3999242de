use Rattle.pgp_frontend_read.proofs.Common.{IsBytes, uint16}
use Rattle.pgp_frontend_read.proofs.Spelled.{left_spelled, bytes_joined, count_bytes}
use Rattle.pgp_frontend_read.proofs.listed.Listed.spelled.Goals as goal

pub returns-clause-read : goal.returns-clause-read
unfolding uint16
returns-clause-read g c = rw (c.to_be_bytes.ensures, c.items.ensures.same) (left_spelled g.T.Item.read c.self.inside.count c.self.inside.bytes.now c.args.self.now c.self.view_is c.self.invariant c.requires)

pub returns-clause-bytes : goal.returns-clause-bytes
returns-clause-bytes g c =
    let count : IsBytes c.to_be_bytes.result = rw c.to_be_bytes.ensures (count_bytes c.self.inside.count) in
    bytes_joined c.to_be_bytes.result c.items.result.now count c.items.ensures.bytes
