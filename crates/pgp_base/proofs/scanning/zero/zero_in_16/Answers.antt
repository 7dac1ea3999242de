use Rattle.pgp_base.proofs.Common.{arith}
use Rattle.pgp_base.proofs.ZeroLemmas.{no_zero, some_zero}
use Rattle.pgp_base.proofs.scanning.zero.zero_in_16.Goals as goal

pub returns-then-zeros-eq0 : goal.returns-then-zeros-eq0
returns-then-zeros-eq0 c = no_zero c.args.bytes.now c.args.at 16 (omega arith) (omega arith) c.if-zeros-eq0.true

pub returns : goal.returns
returns c = some_zero c.args.bytes.now c.args.at 16 (omega arith) (omega arith) c.if-zeros-eq0.false
