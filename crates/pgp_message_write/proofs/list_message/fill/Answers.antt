use Rattle.pgp_message_write.proofs.Common.{arith, inl, inr, flat_map, uint32, memory_more, memory_then, if_err_at, length-uint32, joined, parts_of, frame_room, frame_done, frame_fits, frame_passes, frame_refused, framed_length, with_list}
use Rattle.pgp_message_write.proofs.list_message.fill.Goals as goal

pub finish_body-requires : goal.finish_body-requires
finish_body-requires g c =
    let ps = with_list (parts_of c.args.head.now) (flat_map g.I.Item.parts c.args.items.now) (parts_of c.args.tail.now) in
    frame_room ps (g.B.Buffer.held c.args.buf.now) _ _ _ c.in_ok-put_u32.ensures.ok c.in_ok-put_all.ensures.ok.1 c.len-base.ensures.value

pub returns-clause-ok : goal.returns-clause-ok
returns-clause-ok g c =
    let ps = with_list (parts_of c.args.head.now) (flat_map g.I.Item.parts c.args.items.now) (parts_of c.args.tail.now) in
    let k = c.in_ok-put_all.ensures.ok in
    let w = c.in_ok-finish_body.ensures in (
      frame_fits ps (g.B.Buffer.held c.args.buf.now) _ _ _ c.in_ok-put_u32.ensures.ok k.1 c.len-base.ensures.value k.0 w.fits,
      frame_done ps (g.B.Buffer.held c.args.buf.now) _ _ _ c.in_ok-put_u32.ensures.ok k.1 c.len-base.ensures.value _ w.ok,
    )

pub returns-in_err-put_all-clause-cause : goal.returns-in_err-put_all-clause-cause
returns-in_err-put_all-clause-cause g c =
    let ps = with_list (parts_of c.args.head.now) (flat_map g.I.Item.parts c.args.items.now) (parts_of c.args.tail.now) in
    if_err_at _ _ _ c.from_residual-in_err-put_all.ensures.1
    (elim c.in_err-put_all.ensures.cause [ inl memory ↦ inl (memory_then (g.B.Buffer.held c.args.buf.now) _ (uint32 0) _ _ _ c.in_ok-put_u32.ensures.ok (omega (arith, framed_length (joined ps), length-uint32 0)) memory) | inr refused ↦ inr (frame_refused ps _ refused) ])

pub returns-in_err-finish_body-clause-cause : goal.returns-in_err-finish_body-clause-cause
returns-in_err-finish_body-clause-cause g c =
    let ps = with_list (parts_of c.args.head.now) (flat_map g.I.Item.parts c.args.items.now) (parts_of c.args.tail.now) in
    let k = c.in_ok-put_all.ensures.ok in
    if_err_at _ _ _ c.from_residual-in_err-finish_body.ensures.1
    (inr (frame_passes ps (g.B.Buffer.held c.args.buf.now) _ _ _ c.in_ok-put_u32.ensures.ok k.1 c.len-base.ensures.value _ k.0 c.in_err-finish_body.ensures.cause))

pub returns-in_err-put_u32-clause-cause : goal.returns-in_err-put_u32-clause-cause
returns-in_err-put_u32-clause-cause g c =
    let ps = with_list (parts_of c.args.head.now) (flat_map g.I.Item.parts c.args.items.now) (parts_of c.args.tail.now) in
    if_err_at _ _ _ c.from_residual.ensures.1 (inl (memory_more _ 4 _ _ (omega (arith, framed_length (joined ps))) c.in_err-put_u32.ensures.cause))
