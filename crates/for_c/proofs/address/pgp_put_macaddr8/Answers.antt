use Rattle.for_c.proofs.Common.{refl, sym, subst, inr, IsBlock}
use Rattle.for_c.proofs.Sending.{wrote_same, lacks_same}
use Rattle.for_c.proofs.address.pgp_put_macaddr8.Goals as goal

pub returns-in-Ok-clause-wrote : goal.returns-in-Ok-clause-wrote
returns-in-Ok-clause-wrote c z =
    let k = c.in-Ok.ensures in ((subst (λ l. IsBlock 8 l) (sym k.1) k.0, refl), wrote_same c.args.address.now c.in-Ok.octets (sym k.1) c.args.out.now _ _ (c.put.ensures.wrote z))

pub returns-in-Ok-clause-refused : goal.returns-in-Ok-clause-refused
returns-in-Ok-clause-refused c z =
    let lacks = c.put.ensures.lacks z in (lacks.length_is, inr (lacks_same c.args.address.now c.in-Ok.octets (sym c.in-Ok.ensures.1) c.args.out.now _ _ lacks))
