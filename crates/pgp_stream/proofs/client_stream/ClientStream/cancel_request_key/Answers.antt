use Rattle.pgp_stream.proofs.Common.{refl, to_z-of_z, CancelRequest}
use Rattle.pgp_stream.proofs.Additions.{same_numbers, same_phase, earlier_adds, earlier_reads}
use Rattle.pgp_stream.proofs.client_stream.ClientStream.cancel_request_key.Goals as goal

pub returns : goal.returns
returns g c = rw (← c.self.view_is) (same_numbers g.B.Buffer.held g.B.Buffer.Lacks (record { buf = c.self.inside.buf; opened = c.self.inside.opened }) (record { buf = c.cancel_request_key.new.buf; opened = c.self.inside.opened }) c.cancel_request_key.result (to_z-of_z c.ranges.process_id) refl (earlier_adds g.B.Buffer.held c.self.inside.buf c.cancel_request_key.new.buf c.self.inside.opened c.self.invariant (CancelRequest _ _) refl g.B.Buffer.Lacks c.cancel_request_key.result c.cancel_request_key.ensures (same_phase c.self.view_is c.requires) tt tt))

pub invariant_of-self : goal.invariant_of-self
invariant_of-self g c = earlier_reads g.B.Buffer.held c.self.inside.buf c.cancel_request_key.new.buf c.self.inside.opened c.self.invariant (CancelRequest _ c.args.secret_key.now) refl g.B.Buffer.Lacks c.cancel_request_key.result c.cancel_request_key.ensures (same_phase c.self.view_is c.requires) tt tt
