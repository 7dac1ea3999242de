use Rattle.pgp_stream.proofs.Common.{refl, subst, to_z-of_z, Execute, AddsMessage}
use Rattle.pgp_stream.proofs.Additions.{same_phase, later_adds, later_reads}
use Rattle.pgp_stream.proofs.client_stream.ClientStream.execute.Goals as goal

pub returns : goal.returns
returns g c = rw (← c.self.view_is) (subst (λ z. AddsMessage g.B.Buffer.held (Execute c.args.portal.now z) g.B.Buffer.Lacks (record { buf = c.self.inside.buf; opened = c.self.inside.opened }) (record { buf = c.execute.new.buf; opened = c.self.inside.opened }) c.execute.result) (to_z-of_z c.ranges.max_rows) (later_adds g.B.Buffer.held c.self.inside.buf c.execute.new.buf c.self.inside.opened c.self.invariant (Execute c.args.portal.now _) refl g.B.Buffer.Lacks c.execute.result c.execute.ensures (same_phase c.self.view_is c.requires) refl))

pub invariant_of-self : goal.invariant_of-self
invariant_of-self g c = later_reads g.B.Buffer.held c.self.inside.buf c.execute.new.buf c.self.inside.opened c.self.invariant (Execute c.args.portal.now _) refl g.B.Buffer.Lacks c.execute.result c.execute.ensures (same_phase c.self.view_is c.requires) refl
