use Rattle.for_c.proofs.Common.{inr}
use Rattle.for_c.proofs.Addresses.{addressed_by}
use Rattle.for_c.proofs.inet.pgp_put_inet_any.Goals as goal

pub returns-clause-wrote : goal.returns-clause-wrote
returns-clause-wrote c z = (_, addressed_by c.args.address.now c.args.netmask c.in-Ok.addr c.in-Ok.ensures.ok, c.put.ensures.wrote z)

pub returns-clause-refused : goal.returns-clause-refused
returns-clause-refused c z =
    let lacks = c.put.ensures.lacks z in (lacks.length_is, inr (_, addressed_by c.args.address.now c.args.netmask c.in-Ok.addr c.in-Ok.ensures.ok, lacks))
