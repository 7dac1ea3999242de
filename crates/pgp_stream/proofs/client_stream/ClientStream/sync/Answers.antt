use Rattle.pgp_stream.proofs.Common.{refl, Sync}
use Rattle.pgp_stream.proofs.Additions.{same_phase, later_adds, later_reads}
use Rattle.pgp_stream.proofs.client_stream.ClientStream.sync.Goals as goal

pub returns : goal.returns
returns g c = rw (← c.self.view_is) (later_adds g.B.Buffer.held c.self.inside.buf c.sync.new.buf c.self.inside.opened c.self.invariant (Sync) refl g.B.Buffer.Lacks c.sync.result c.sync.ensures (same_phase c.self.view_is c.requires) refl)

pub invariant_of-self : goal.invariant_of-self
invariant_of-self g c = later_reads g.B.Buffer.held c.self.inside.buf c.sync.new.buf c.self.inside.opened c.self.invariant (Sync) refl g.B.Buffer.Lacks c.sync.result c.sync.ensures (same_phase c.self.view_is c.requires) refl
