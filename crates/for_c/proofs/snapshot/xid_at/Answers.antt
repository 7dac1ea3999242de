use Rattle.for_c.proofs.Common.{◌≡◌, ◌++◌, arith, sym, ap, ◌∙◌, length, take-append-drop}
use Rattle.std.proofs.Common.{length-take}
use Rattle.for_c.proofs.PointLists.{never_rejected}
use Rattle.for_c.proofs.snapshot.xid_at.Goals as goal

pub returns-in-Ok-clause-xid : goal.returns-in-Ok-clause-xid
returns-in-Ok-clause-xid c =
    let whole : c.args.bytes.now ≡ c.split_at.result.0.now ++ c.split_at.result.1.now = rw (c.split_at.ensures.front, c.split_at.ensures.back) (sym (take-append-drop 8 c.args.bytes.now)) in
    record { front = c.split_at.result.0.now; whole = whole; spelled = c.in-Ok.ensures }

pub returns-in-Err-clause-refused : goal.returns-in-Err-clause-refused
returns-in-Err-clause-refused c =
    absurd (never_rejected 8 c.split_at.result.0.now c.in-Err.e (ap length c.split_at.ensures.front ∙ length-take 8 c.args.bytes.now ∙ omega (arith, c.if-bytes-lt8.false)) c.in-Err.ensures)
