use Rattle.pgp_value_text.proofs.Common.{In, subst, Tells, IsElementBy}
use Rattle.pgp_value_text.proofs.element.put_element.Goals as goal

pub returns : goal.returns
returns g c =
    subst (λ f. Tells (In IsElementBy f c.args.type_oid c.args.bytes.now) g.A.Memory.Lacks c.args.text.now.items c.put_element_in.new.text.items c.put_element_in.result) c.binary_format_of.ensures c.put_element_in.ensures
