use Rattle.pgp_types.proofs.RangeWriteLemmas.{inclusive_put, exclusive_put, unbounded_cut}
use Rattle.pgp_types.proofs.range.finish_side.Goals as goal

pub returns-in-Unbounded-clause-ok : goal.returns-in-Unbounded-clause-ok
returns-in-Unbounded-clause-ok g c =
    unbounded_cut c.args.answer c.args.base (g.B.Buffer.held c.args.buf.now) (g.B.Buffer.held c.truncate.new.self) c.in-Unbounded.is c.truncate.ensures.bytes c.truncate.ensures.behind c.truncate.ensures.kept

pub returns-in-Inclusive-clause-ok : goal.returns-in-Inclusive-clause-ok
returns-in-Inclusive-clause-ok g c =
    inclusive_put c.put_length.result c.args.answer c.in-Inclusive.null c.args.base (g.B.Buffer.held c.args.buf.now) (g.B.Buffer.held c.put_length.new.buf) c.in-Inclusive.is c.put_length.ensures.ok

pub returns-in-Exclusive-clause-ok : goal.returns-in-Exclusive-clause-ok
returns-in-Exclusive-clause-ok g c =
    exclusive_put c.put_length-in-Exclusive.result c.args.answer c.in-Exclusive.null c.args.base (g.B.Buffer.held c.args.buf.now) (g.B.Buffer.held c.put_length-in-Exclusive.new.buf) c.in-Exclusive.is c.put_length-in-Exclusive.ensures.ok
