use Rattle.pgp_value_text.proofs.range.push_bound.Goals as goal

pub returns-in-Some : goal.returns-in-Some
returns-in-Some g c = rw c.in-Some.is c.push_bytes.ensures
