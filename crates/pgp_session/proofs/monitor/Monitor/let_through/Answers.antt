use Rattle.pgp_session.proofs.Common.{rules, ◌≡◌, ◌++◌, take, ap, IsFront}
use Rattle.pgp_session.specs.Monitor.{Shown, shown}
use Rattle.pgp_session.proofs.MonitorFronts.{not_admitted, passed_so}
use Rattle.pgp_session.proofs.monitor.Monitor.let_through.Goals as goal

pub returns-in-Err : goal.returns-in-Err
returns-in-Err g c =
    let f : IsFront c.args.bytes.now c.in-Some.kind c.in-Some.len = search rules in
    not_admitted g.A.Memory.Lacks c.args.bytes.now c.in-Some.kind c.in-Some.len (shown c.args.self.now) (shown c.admit.new.self) c.in-Err.e f c.in-Err.ensures

pub returns-in-Ok-append : goal.returns-in-Ok-append
returns-in-Ok-append g c =
    let old = shown c.args.self.now in
    let admitted = shown c.admit.new.self in
    let f : IsFront c.args.bytes.now c.in-Some.kind c.in-Some.len = search rules in
    let grown : c.append.new.buf.items ≡ admitted.out ++ take c.in-Some.len c.args.bytes.now = search rules in
    record {
      kind = c.in-Some.kind;
      front = f;
      goes_on = c.if-self.false;
      taken = c.in-Ok.ensures.0;
      is = passed_so old admitted c.is_end-self.result c.append.new.buf.items c.args.bytes.now c.in-Ok.event c.in-Some.kind c.in-Some.len f
          (ap (λ (m : Shown). m.names) c.in-Ok.ensures.1) (ap (λ (m : Shown). m.out) c.in-Ok.ensures.1) c.is_end-self.ensures grown;
    }
