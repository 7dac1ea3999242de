use Rattle.pgp_value_text.proofs.element.put_element_in.Goals as goal

pub returns-in-Some : goal.returns-in-Some
returns-in-Some g c = rw c.in-Some.is c.put_element_by.ensures
