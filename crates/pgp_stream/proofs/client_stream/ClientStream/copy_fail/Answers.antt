use Rattle.pgp_stream.proofs.Common.{refl, CopyFail}
use Rattle.pgp_stream.proofs.Additions.{same_phase, later_adds, later_reads}
use Rattle.pgp_stream.proofs.client_stream.ClientStream.copy_fail.Goals as goal

pub returns : goal.returns
returns g c = rw (← c.self.view_is) (later_adds g.B.Buffer.held c.self.inside.buf c.copy_fail.new.buf c.self.inside.opened c.self.invariant (CopyFail c.args.reason.now) refl g.B.Buffer.Lacks c.copy_fail.result c.copy_fail.ensures (same_phase c.self.view_is c.requires) refl)

pub invariant_of-self : goal.invariant_of-self
invariant_of-self g c = later_reads g.B.Buffer.held c.self.inside.buf c.copy_fail.new.buf c.self.inside.opened c.self.invariant (CopyFail c.args.reason.now) refl g.B.Buffer.Lacks c.copy_fail.result c.copy_fail.ensures (same_phase c.self.view_is c.requires) refl
