use Rattle.pgp_value_text.proofs.Common.{In, subst, Tells, IsTextBy}
use Rattle.pgp_value_text.proofs.value.put_value.Goals as goal

pub returns : goal.returns
returns g c =
    subst (λ f. Tells (In IsTextBy f c.args.type_oid c.args.bytes.now) g.A.Memory.Lacks c.args.text.now.items c.put_known.new.text.items c.put_known.result) c.binary_format_of.ensures c.put_known.ensures
