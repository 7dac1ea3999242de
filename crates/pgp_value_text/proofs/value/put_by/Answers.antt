use Rattle.pgp_value_text.proofs.Common.{sym, subst, Tells}
use Rattle.pgp_value_text.proofs.Any.{plain_by}
use Rattle.pgp_value_text.proofs.value.put_by.Goals as goal

pub returns-in-Array : goal.returns-in-Array
returns-in-Array g c = rw c.in-Array.is c.put_array.ensures

pub returns-in_default : goal.returns-in_default
returns-in_default g c =
    subst (λ shows. Tells (shows c.args.bytes.now) g.A.Memory.Lacks c.args.text.now.items c.put_element_by.new.text.items c.put_element_by.result) (sym (plain_by c.args.format c.args.type_oid c.in_default.not-Array)) c.put_element_by.ensures
