use Rattle.for_c.proofs.Common.{◌≡◌, ◌++◌, arith, sym, ap, subst, ◌∙◌, length, take-append-drop, IsPoint, point_bytes}
use Rattle.std.proofs.Common.{length-take}
use Rattle.for_c.proofs.PointLists.{never_rejected}
use Rattle.for_c.proofs.points.point_at.Goals as goal

pub returns-in-Ok-clause-point : goal.returns-in-Ok-clause-point
returns-in-Ok-clause-point c =
    let whole : c.args.bytes.now ≡ c.split_at.result.0.now ++ c.split_at.result.1.now = rw (c.split_at.ensures.front, c.split_at.ensures.back) (sym (take-append-drop 16 c.args.bytes.now)) in
    record { front = c.split_at.result.0.now; whole = whole; spelled = subst (λ q. IsPoint q × (c.split_at.result.0.now ≡ point_bytes q)) (sym c.shown.ensures) c.in-Ok.ensures }

pub returns-in-Err-clause-refused : goal.returns-in-Err-clause-refused
returns-in-Err-clause-refused c =
    absurd (never_rejected 16 c.split_at.result.0.now c.in-Err.e (ap length c.split_at.ensures.front ∙ length-take 16 c.args.bytes.now ∙ omega (arith, c.if-bytes-lt16.false)) c.in-Err.ensures)
