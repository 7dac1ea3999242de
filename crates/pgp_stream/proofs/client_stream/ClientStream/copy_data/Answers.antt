use Rattle.pgp_stream.proofs.Common.{refl, Ok, CopyData}
use Rattle.pgp_stream.proofs.Additions.{same_phase, later_adds, later_reads, left, still}
use Rattle.pgp_stream.proofs.client_stream.ClientStream.copy_data.Goals as goal
use Rattle.pgp_stream.proofs.client_stream.ClientStream.copy_data.Goals.{in-Ok, in-Err}

pub returns : goal.returns
returns g c =
    let held = g.B.Buffer.held in
    let a = c.self.inside.buf in
    let b = c.write.new.out in
    let o = c.self.inside.opened in
    let m = CopyData (g.T.Buf.unread c.args.piece) in
    rw (← c.self.view_is) (elim c.match-write.branch [
      | in-Ok w ↦ rw w.result-is (later_adds held a b o c.self.invariant m refl g.B.Buffer.Lacks (Ok tt) w.in-Ok.ensures.ok (same_phase c.self.view_is c.requires) refl)
      | in-Err w ↦ rw w.result-is ((w.in-Err.ensures.err.0, w.in-Err.ensures.err.1), left held a b o c.self.invariant w.in-Err.ensures.err.2)
    ])

pub invariant_of-self : goal.invariant_of-self
invariant_of-self g c =
    let held = g.B.Buffer.held in
    let a = c.self.inside.buf in
    let b = c.write.new.out in
    let o = c.self.inside.opened in
    let m = CopyData (g.T.Buf.unread c.args.piece) in
    elim c.match-write.branch [
      | in-Ok w ↦ later_reads held a b o c.self.invariant m refl g.B.Buffer.Lacks (Ok tt) w.in-Ok.ensures.ok (same_phase c.self.view_is c.requires) refl
      | in-Err w ↦ still held a b o c.self.invariant w.in-Err.ensures.err.2
    ]
