use Rattle.pgp_value_text.proofs.Common.{subst, In, IsShown, Tells}
use Rattle.pgp_value_text.proofs.format.put_plain.Goals as goal

pub returns : goal.returns
returns g c =
    subst (λ f. Tells (In IsShown f c.args.type_oid c.args.bytes.now) g.A.Memory.Lacks c.args.text.now.items c.put_in.new.text.items c.put_in.result) c.binary_format_of.ensures c.put_in.ensures
