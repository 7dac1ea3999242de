use Rattle.pgp_types.proofs.Common.{◌≡◌, refl, IsBytes}
use Rattle.pgp_types.proofs.Spelling.{gives}
use Rattle.pgp_types.proofs.Numbers.{uint64_spelling}
use Rattle.pgp_types.proofs.geometry.coordinate_of.Goals as goal

pub returns : goal.returns
returns c =
    let same : c.unwrap.result ≡ c.args.bytes.now = (rw c.unwrap.ensures at c.try_into.ensures.1).same in
    let small : IsBytes c.args.bytes.now = λ i. (c.type_inv.bytes i).fits in
    gives uint64_spelling _ _ ((small, c.requires), refl) _ (rw same at c.u64_of.ensures)
