use Rattle.pgp_stream.proofs.Common.{refl, SaslResponse}
use Rattle.pgp_stream.proofs.Additions.{same_phase, later_adds, later_reads}
use Rattle.pgp_stream.proofs.client_stream.ClientStream.sasl_response.Goals as goal

pub returns : goal.returns
returns g c = rw (← c.self.view_is) (later_adds g.B.Buffer.held c.self.inside.buf c.sasl_response.new.buf c.self.inside.opened c.self.invariant (SaslResponse c.args.«data».now) refl g.B.Buffer.Lacks c.sasl_response.result c.sasl_response.ensures (same_phase c.self.view_is c.requires) refl)

pub invariant_of-self : goal.invariant_of-self
invariant_of-self g c = later_reads g.B.Buffer.held c.self.inside.buf c.sasl_response.new.buf c.self.inside.opened c.self.invariant (SaslResponse c.args.«data».now) refl g.B.Buffer.Lacks c.sasl_response.result c.sasl_response.ensures (same_phase c.self.view_is c.requires) refl
