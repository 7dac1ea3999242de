use Rattle.for_c.proofs.Common.{rules, inr}
use Rattle.for_c.proofs.Addresses.{inet_of}
use Rattle.for_c.proofs.inet.pgp_put_cidr.Goals as goal

pub returns-clause-wrote : goal.returns-clause-wrote
returns-clause-wrote c z = (_, inet_of c.args.address.now c.args.netmask c.in-Ok.addr c.in-Ok.ensures.ok (search rules), c.put.ensures.wrote z)

pub returns-clause-refused : goal.returns-clause-refused
returns-clause-refused c z =
    let lacks = c.put.ensures.lacks z in (lacks.length_is, inr (_, inet_of c.args.address.now c.args.netmask c.in-Ok.addr c.in-Ok.ensures.ok (search rules), lacks))
