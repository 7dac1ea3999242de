use Rattle.pgp_types.proofs.Common.{refl}
use Rattle.pgp_types.proofs.RangeWriteLemmas.{bound_adds_of}
use Rattle.pgp_types.proofs.range.bound_by.Goals as goal

pub returns : goal.returns
returns g c =
    let k = bound_adds_of _ _ _ (c.requires.owes _ _ _ (c.requires.callable.at (_, tt)) c.f.ensures) in
    (k.0, record { before = _; after = _; called = c.f.ensures; stood = refl; appended = k.1 }, k.1, k.2)
