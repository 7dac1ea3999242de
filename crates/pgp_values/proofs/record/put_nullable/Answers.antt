use Rattle.pgp_values.proofs.Common.{shown, nullable_least, memory_as}
use Rattle.pgp_values.proofs.record.put_nullable.Goals as goal

pub returns-in-None-clause-cause : goal.returns-in-None-clause-cause
returns-in-None-clause-cause g c =
    memory_as g.B.Buffer.Lacks c.put_u32.result (g.B.Buffer.held c.args.buf.now) 4 _ _ (nullable_least (shown c.args.v)) c.put_u32.ensures.cause
