use Rattle.pgp_values.proofs.Common.{length}
use Rattle.pgp_values.proofs.ScanLemmas.{some_of, exponent_at_err}
use Rattle.pgp_values.proofs.scan.exponent_at.Goals as goal

pub returns-clause-refused : goal.returns-clause-refused
returns-clause-refused c = exponent_at_err c.raised_at.result c.args.bytes.now (some_of (length c.args.bytes.now) c.if-is_empty.ensures) c.raised_at.ensures.refused
