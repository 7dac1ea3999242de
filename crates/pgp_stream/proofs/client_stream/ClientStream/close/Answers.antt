use Rattle.pgp_stream.proofs.Common.{refl, Close}
use Rattle.pgp_stream.proofs.Additions.{same_phase, later_adds, later_reads}
use Rattle.pgp_stream.proofs.client_stream.ClientStream.close.Goals as goal

pub returns : goal.returns
returns g c = rw (← c.self.view_is) (later_adds g.B.Buffer.held c.self.inside.buf c.close.new.buf c.self.inside.opened c.self.invariant (Close c.args.variant c.args.name.now) refl g.B.Buffer.Lacks c.close.result c.close.ensures (same_phase c.self.view_is c.requires) refl)

pub invariant_of-self : goal.invariant_of-self
invariant_of-self g c = later_reads g.B.Buffer.held c.self.inside.buf c.close.new.buf c.self.inside.opened c.self.invariant (Close c.args.variant c.args.name.now) refl g.B.Buffer.Lacks c.close.result c.close.ensures (same_phase c.self.view_is c.requires) refl
