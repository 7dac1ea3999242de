use Rattle.pgp_value_text.proofs.range.push_range.Goals as goal

pub returns-in-Nonempty : goal.returns-in-Nonempty
returns-in-Nonempty g c = rw c.in-Nonempty.is c.push_sides.ensures
