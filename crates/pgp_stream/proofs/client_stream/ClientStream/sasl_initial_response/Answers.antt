use Rattle.pgp_stream.proofs.Common.{refl, Some, SaslInitialResponse}
use Rattle.pgp_stream.proofs.Additions.{same_phase, later_adds, later_reads}
use Rattle.pgp_stream.proofs.client_stream.ClientStream.sasl_initial_response.Goals as goal

pub returns : goal.returns
returns g c = rw (← c.self.view_is) (later_adds g.B.Buffer.held c.self.inside.buf c.sasl_initial_response.new.buf c.self.inside.opened c.self.invariant (SaslInitialResponse c.args.mechanism.now (Some c.args.«data».now)) refl g.B.Buffer.Lacks c.sasl_initial_response.result c.sasl_initial_response.ensures (same_phase c.self.view_is c.requires) refl)

pub invariant_of-self : goal.invariant_of-self
invariant_of-self g c = later_reads g.B.Buffer.held c.self.inside.buf c.sasl_initial_response.new.buf c.self.inside.opened c.self.invariant (SaslInitialResponse c.args.mechanism.now (Some c.args.«data».now)) refl g.B.Buffer.Lacks c.sasl_initial_response.result c.sasl_initial_response.ensures (same_phase c.self.view_is c.requires) refl
