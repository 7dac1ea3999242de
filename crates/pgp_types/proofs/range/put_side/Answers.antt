use Rattle.pgp_types.proofs.Common.{◌≡◌, ◌+◌, length, ap, ◌∙◌, arith, length-append, Held, more_bytes}
use Rattle.pgp_types.proofs.range.put_side.Goals as goal

pub finish_side-requires : goal.finish_side-requires
finish_side-requires g c =
    let k = c.in-Ok.ensures in
    let old = g.B.Buffer.held c.args.buf.now in
    let grown : length (g.B.Buffer.held c.bound_by.new.buf).bytes ≡ length old.bytes + length k.0 = ap (λ (h : Held g.B.Buffer.Kept). length h.bytes) k.2 ∙ (ap length (more_bytes old k.0) ∙ length-append old.bytes k.0) in
    omega (arith, grown, c.len-base.ensures.value)

pub returns-in-Err-finish_side-clause-cause : goal.returns-in-Err-finish_side-clause-cause
returns-in-Err-finish_side-clause-cause g c =
    let k = c.in-Ok.ensures in
    (c.in-Ok.answer, k.0, k.1, c.in-Err-finish_side.ensures.cause (g.B.Buffer.held c.args.buf.now) k.0 (record { stands = k.2; place = c.len-base.ensures.value; none = k.3 }))
