use Rattle.pgp_types.proofs.Common.{◌≡◌, arith, refl, inl, length-append, front_then, front_same, cut_back, left_same, wants_here, wants_now, wants_then, writes_out}
use Rattle.pgp_types.proofs.Appending.{at_err}
use Rattle.pgp_types.proofs.codec.append_both.Goals as goal

pub returns-then-is_err : goal.returns-then-is_err
returns-then-is_err g c =
    let same : g.B.Buffer.held c.append-2.new.self ≡ g.B.Buffer.held c.append.new.self = at_err _ _ _ c.append-2.ensures.err c.is_err.ensures.value c.if-is_err.true in (
      inl (refl, wants_then (g.B.Buffer.held c.args.buf.now) _ c.args.front.now _ _ c.in_ok-append.ensures.ok (omega (arith, length-append c.args.front.now c.args.rest.now)) (wants_now _ _ (at_err _ _ _ c.append-2.ensures.lacks c.is_err.ensures.value c.if-is_err.true))),
      cut_back (g.B.Buffer.held c.args.buf.now) _ _ c.len-start.result (front_then _ _ _ _ c.in_ok-append.ensures.ok (front_same _ _ same)) c.len-start.ensures.value c.truncate.ensures.bytes c.truncate.ensures.kept,
    )

pub returns-in_err-append : goal.returns-in_err-append
returns-in_err-append g c =
    let wants = wants_here (g.B.Buffer.held c.args.buf.now) _ _ c.in_err-append.ensures.lacks (omega (arith, length-append c.args.front.now c.args.rest.now)) in
    writes_out _ _ _ _ _ _ c.from_residual.ensures.0 c.from_residual.ensures.1 wants (left_same _ _ c.in_err-append.ensures.err)
