use Rattle.for_c.proofs.Compound.{bits_behind}
use Rattle.for_c.proofs.bits.pgp_get_varbit.Goals as goal

pub returns-in-Ok-clause-read : goal.returns-in-Ok-clause-read
returns-in-Ok-clause-read c z = rw c.len.ensures (bits_behind c.args.bytes.now c.in-Ok.value c.in-Ok.ensures)
