use Rattle.pgp_stream.proofs.Common.{refl, SslRequest}
use Rattle.pgp_stream.proofs.Additions.{same_phase, earlier_adds, earlier_reads}
use Rattle.pgp_stream.proofs.client_stream.ClientStream.ssl_request.Goals as goal

pub returns : goal.returns
returns g c = rw (← c.self.view_is) (earlier_adds g.B.Buffer.held c.self.inside.buf c.ssl_request.new.buf c.self.inside.opened c.self.invariant (SslRequest) refl g.B.Buffer.Lacks c.ssl_request.result c.ssl_request.ensures (same_phase c.self.view_is c.requires) tt tt)

pub invariant_of-self : goal.invariant_of-self
invariant_of-self g c = earlier_reads g.B.Buffer.held c.self.inside.buf c.ssl_request.new.buf c.self.inside.opened c.self.invariant (SslRequest) refl g.B.Buffer.Lacks c.ssl_request.result c.ssl_request.ensures (same_phase c.self.view_is c.requires) tt tt
