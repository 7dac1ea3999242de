use Rattle.pgp_message_write.proofs.Common.{arith, [], ◌++◌, length, refl, inl, inr, either_none, memory_more, if_err_at, frame_cause, joined, parts_cause, parts_of, frame_room, frame_done, frame_fits, frame_passes, framed_length, list_parts, number_cause}
use Rattle.pgp_message_write.proofs.Lists.{puts_then}
use Rattle.pgp_message_write.proofs.GivenLists.{head_refused, list_behind, none_counted}
use Rattle.pgp_message_write.proofs.list_message_of.fill.Goals as goal

pub finish_body-requires : goal.finish_body-requires
finish_body-requires g c =
    let head = parts_of c.args.head.now in
    let k = c.in_ok-put_list.ensures.ok in
    let list = list_parts c.args.ending g.T.Item.parts k.0 in
    let all = puts_then head list _ _ _ c.in_ok-put_fields.ensures.ok k.3 in
    frame_room (head ++ list) (g.B.Buffer.held c.args.buf.now) _ _ _ c.in_ok-put_u32.ensures.ok all.1 c.len-base.ensures.value

pub returns-clause-ok : goal.returns-clause-ok
returns-clause-ok g c =
    let head = parts_of c.args.head.now in
    let k = c.in_ok-put_list.ensures.ok in
    let list = list_parts c.args.ending g.T.Item.parts k.0 in
    let all = puts_then head list _ _ _ c.in_ok-put_fields.ensures.ok k.3 in
    let w = c.in_ok-finish_body.ensures in (
      k.0,
      k.1,
      either_none (number_cause c.args.ending (length k.0)) (frame_cause (head ++ list)) k.2 (frame_fits (head ++ list) (g.B.Buffer.held c.args.buf.now) _ _ _ c.in_ok-put_u32.ensures.ok all.1 c.len-base.ensures.value all.0 w.fits),
      frame_done (head ++ list) (g.B.Buffer.held c.args.buf.now) _ _ _ c.in_ok-put_u32.ensures.ok all.1 c.len-base.ensures.value _ w.ok,
    )

pub returns-in_err-finish_body-clause-cause : goal.returns-in_err-finish_body-clause-cause
returns-in_err-finish_body-clause-cause g c =
    let head = parts_of c.args.head.now in
    let k = c.in_ok-put_list.ensures.ok in
    let list = list_parts c.args.ending g.T.Item.parts k.0 in
    let all = puts_then head list _ _ _ c.in_ok-put_fields.ensures.ok k.3 in
    if_err_at _ _ _ c.from_residual-in_err-finish_body.ensures.1
    (inr (
      k.0,
      k.1,
      either_none (number_cause c.args.ending (length k.0)) (parts_cause (head ++ list)) k.2 all.0,
      frame_passes (head ++ list) (g.B.Buffer.held c.args.buf.now) _ _ _ c.in_ok-put_u32.ensures.ok all.1 c.len-base.ensures.value _ all.0 c.in_err-finish_body.ensures.cause,
    ))

pub returns-in_err-put_list-clause-cause : goal.returns-in_err-put_list-clause-cause
returns-in_err-put_list-clause-cause g c =
    if_err_at _ _ _ c.from_residual-in_err-put_list.ensures.1
    (list_behind _ (number_cause c.args.ending) (list_parts c.args.ending g.T.Item.parts) (parts_of c.args.head.now) (g.B.Buffer.held c.args.buf.now) _ _ _ c.in_ok-put_u32.ensures.ok c.in_ok-put_fields.ensures.ok c.in_err-put_list.ensures.cause)

pub returns-in_err-put_fields-clause-cause : goal.returns-in_err-put_fields-clause-cause
returns-in_err-put_fields-clause-cause g c =
    if_err_at _ _ _ c.from_residual-in_err-put_fields.ensures.1
    (head_refused _ (number_cause c.args.ending) (list_parts c.args.ending g.T.Item.parts) (parts_of c.args.head.now) (g.B.Buffer.held c.args.buf.now) _ _ (none_counted c.args.ending) c.in_ok-put_u32.ensures.ok c.in_err-put_fields.ensures.cause)

pub returns-in_err-put_u32-clause-cause : goal.returns-in_err-put_u32-clause-cause
returns-in_err-put_u32-clause-cause g c =
    let none = parts_of c.args.head.now ++ list_parts c.args.ending g.T.Item.parts [] in
    if_err_at _ _ _ c.from_residual.ensures.1
    (inl ([], inl refl, inl (memory_more (g.B.Buffer.held c.args.buf.now) 4 _ _ (omega (arith, framed_length (joined none))) c.in_err-put_u32.ensures.cause)))
