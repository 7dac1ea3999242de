use Rattle.pgp_base.proofs.Common.{arith}
use Rattle.pgp_base.proofs.AsciiLemmas.{ascii_of_mask, ascii_before}
use Rattle.pgp_base.proofs.scanning.ascii.ascii_in_8.Goals as goal

pub returns-then-high-eq0-clause-ascii : goal.returns-then-high-eq0-clause-ascii
returns-then-high-eq0-clause-ascii c = ascii_of_mask c.args.bytes.now c.args.at 8 (omega arith) (omega arith) c.if-high-eq0.true

pub returns-clause-within : goal.returns-clause-within
returns-clause-within c = (ascii_before c.args.bytes.now c.args.at 8 (omega arith) (omega arith) c.if-high-eq0.false).0

pub returns-clause-ascii : goal.returns-clause-ascii
returns-clause-ascii c k low up = (ascii_before c.args.bytes.now c.args.at 8 (omega arith) (omega arith) c.if-high-eq0.false).1 k low (omega (arith, up))
