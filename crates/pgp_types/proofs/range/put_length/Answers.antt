use Rattle.pgp_types.proofs.Common.{if_err_at}
use Rattle.pgp_types.proofs.RangeWriteLemmas.{length_past, length_lacks, length_put_all}
use Rattle.pgp_types.proofs.range.put_length.Goals as goal

pub returns-in_err-size-clause-cause : goal.returns-in_err-size-clause-cause
returns-in_err-size-clause-cause g c =
    if_err_at _ _ _ c.from_residual.ensures.1 (length_past c.args.null c.args.base c.len.result (g.B.Buffer.held c.args.buf.now) c.len.ensures.value _ c.in_err-size.ensures.cause)

pub returns-clause-ok : goal.returns-clause-ok
returns-clause-ok g c =
    length_put_all c.insert_u32.result c.args.null c.args.base c.len.result _ (g.B.Buffer.held c.args.buf.now) (g.B.Buffer.held c.insert_u32.new.buf) c.len.ensures.value c.in_ok-size.ensures.value c.insert_u32.ensures.ok

pub returns-clause-cause : goal.returns-clause-cause
returns-clause-cause g c = length_lacks _ c.insert_u32.result c.args.null c.args.base (g.B.Buffer.held c.args.buf.now) c.insert_u32.ensures.cause
