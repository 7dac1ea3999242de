use Rattle.pgp_base.proofs.Common.{refl}
use Rattle.pgp_base.proofs.Parts.{value_adds_of}
use Rattle.pgp_base.proofs.writing.value_by.Goals as goal

pub returns : goal.returns
returns g c =
    let k = value_adds_of _ _ _ (c.requires.owes _ _ _ (c.requires.callable.at (_, tt)) c.f.ensures) in
    (k.0, record { before = _; after = _; called = c.f.ensures; stood = refl; appended = k.1 }, k.1, k.2)
