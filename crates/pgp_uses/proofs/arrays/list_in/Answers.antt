use Rattle.pgp_uses.proofs.Common.{inl}
use Rattle.pgp_uses.proofs.arrays.list_in.Goals as goal

pub returns-in-Err : goal.returns-in-Err
returns-in-Err g c = inl c.in-Err.ensures
