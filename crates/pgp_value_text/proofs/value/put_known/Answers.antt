use Rattle.pgp_value_text.proofs.value.put_known.Goals as goal

pub returns-in-Some : goal.returns-in-Some
returns-in-Some g c = rw c.in-Some.is c.put_by.ensures
