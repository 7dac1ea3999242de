use Rattle.pgp_stream.proofs.Common.{ap, is_some, tag_of}
use Rattle.pgp_stream.proofs.Additions.{is_plain}
use Rattle.pgp_stream.proofs.Additions.{same_phase, later_added, later_stays, left, still}
use Rattle.pgp_stream.proofs.client_stream.ClientStream.bind.Goals as goal
use Rattle.pgp_stream.proofs.client_stream.ClientStream.bind.Goals.{in-Ok, in-Err}

pub returns : goal.returns
returns g c =
    let held = g.B.Buffer.held in
    let a = c.self.inside.buf in
    let b = c.bind.new.buf in
    let o = c.self.inside.opened in
    rw (← c.self.view_is) (elim c.match-bind.branch [
      | in-Ok w ↦ rw w.result-is
          (let e = w.in-Ok.ensures.1 in
          (w.in-Ok.ensures.0, (e.message, e.whole, later_added held a b o c.self.invariant e.message (ap is_plain e.whole.2.2.2) (same_phase c.self.view_is c.requires.opened) (ap (λ m. is_some (tag_of m)) e.whole.2.2.2) e.in_range e.none e.appended)))
      | in-Err w ↦ rw w.result-is (w.in-Err.ensures.0, (w.in-Err.ensures.1.0, left held a b o c.self.invariant w.in-Err.ensures.1.1))
    ])

pub invariant_of-self : goal.invariant_of-self
invariant_of-self g c =
    let held = g.B.Buffer.held in
    let a = c.self.inside.buf in
    let b = c.bind.new.buf in
    let o = c.self.inside.opened in
    elim c.match-bind.branch [
      | in-Ok w ↦
          (let e = w.in-Ok.ensures.1 in
          later_stays held a b o c.self.invariant e.message (ap is_plain e.whole.2.2.2) (same_phase c.self.view_is c.requires.opened) (ap (λ m. is_some (tag_of m)) e.whole.2.2.2) e.in_range e.none e.appended)
      | in-Err w ↦ still held a b o c.self.invariant w.in-Err.ensures.1.1
    ]
