use Rattle.pgp_base.proofs.Common.{[], ◌∷◌, refl}
use Rattle.pgp_base.proofs.Parts.{adds_of}
use Rattle.pgp_base.proofs.writing.put_by.Goals as goal

pub returns-clause-put : goal.returns-clause-put
returns-clause-put g c =
    let k = adds_of _ _ _ (c.requires.keeps _ _ _ _ _ _ ((c.requires.callable.at (_ ∷ [])).0) c.f.ensures) in
    (k.0, record { before = _; after = _; called = c.f.ensures; stood = refl; appended = k.1 }, k.1)
