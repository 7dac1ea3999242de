use Rattle.pgp_stream.proofs.Additions.{phase}
use Rattle.pgp_stream.proofs.client_stream.ClientStream.is_open.Goals as goal

pub returns-clause-reads : goal.returns-clause-reads
returns-clause-reads g c = rw (← c.self.view_is) (phase (g.B.Buffer.held c.self.inside.buf).bytes c.self.inside.opened c.self.invariant)
