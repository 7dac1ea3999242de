use Rattle.pgp_frontend.proofs.Common.{arith, inl, inr, uint32, joined, memory_more, memory_then, if_err_at, length-uint32, parts_of}
use Rattle.pgp_frontend.proofs.Needs.{framed_length}
use Rattle.pgp_frontend.proofs.Frames.{frame_room, frame_done, frame_fits, frame_passes, frame_refused}
use Rattle.pgp_frontend.proofs.field.fill.Goals as goal

pub finish_body-requires : goal.finish_body-requires
finish_body-requires g c =
    frame_room (parts_of c.args.fields.now) (g.B.Buffer.held c.args.buf.now) _ _ _ c.in_ok-put_u32.ensures.ok c.in_ok-put_fields.ensures.ok.1 c.len-base.ensures.value

pub returns-clause-ok : goal.returns-clause-ok
returns-clause-ok g c =
    let k = c.in_ok-put_fields.ensures.ok in
    let w = c.in_ok-finish_body.ensures in (
      frame_fits (parts_of c.args.fields.now) (g.B.Buffer.held c.args.buf.now) _ _ _ c.in_ok-put_u32.ensures.ok k.1 c.len-base.ensures.value k.0 w.fits,
      frame_done (parts_of c.args.fields.now) (g.B.Buffer.held c.args.buf.now) _ _ _ c.in_ok-put_u32.ensures.ok k.1 c.len-base.ensures.value _ w.ok,
    )

pub returns-in_err-put_fields-clause-cause : goal.returns-in_err-put_fields-clause-cause
returns-in_err-put_fields-clause-cause g c =
    if_err_at _ _ _ c.from_residual-in_err-put_fields.ensures.1
    (elim c.in_err-put_fields.ensures.cause [ inl memory ↦ inl (memory_then (g.B.Buffer.held c.args.buf.now) _ (uint32 0) _ _ _ c.in_ok-put_u32.ensures.ok (omega (arith, framed_length (joined (parts_of c.args.fields.now)), length-uint32 0)) memory) | inr refused ↦ inr (frame_refused (parts_of c.args.fields.now) _ refused) ])

pub returns-in_err-finish_body-clause-cause : goal.returns-in_err-finish_body-clause-cause
returns-in_err-finish_body-clause-cause g c =
    let k = c.in_ok-put_fields.ensures.ok in
    if_err_at _ _ _ c.from_residual-in_err-finish_body.ensures.1
    (inr (frame_passes (parts_of c.args.fields.now) (g.B.Buffer.held c.args.buf.now) _ _ _ c.in_ok-put_u32.ensures.ok k.1 c.len-base.ensures.value _ k.0 c.in_err-finish_body.ensures.cause))

pub returns-in_err-put_u32-clause-cause : goal.returns-in_err-put_u32-clause-cause
returns-in_err-put_u32-clause-cause g c =
    if_err_at _ _ _ c.from_residual.ensures.1 (inl (memory_more _ 4 _ _ (omega (arith, framed_length (joined (parts_of c.args.fields.now)))) c.in_err-put_u32.ensures.cause))
