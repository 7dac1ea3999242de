use Rattle.pgp_frontend.proofs.extended.bind.Goals as goal

pub returns : goal.returns
returns g c = rw (c.as_bytes.ensures.value, c.as_bytes-2.ensures.value) at c.bind.ensures
