use Rattle.pgp_frontend.proofs.Common.{arith, sized_length, length-int32}
use Rattle.pgp_frontend.proofs.field.taken.Goals as goal

pub returns-in-Int32 : goal.returns-in-Int32
returns-in-Int32 c = rw c.in-Int32.is (omega (arith, length-int32 c.in-Int32.field-0))

pub returns-in-Sized : goal.returns-in-Sized
returns-in-Sized c = rw c.in-Sized.is (omega (arith, c.saturating_add-in-Sized.ensures, sized_length c.in-Sized.bytes.now))
