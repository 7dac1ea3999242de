use Rattle.pgp_message_write.proofs.Common.{arith, [], ◌∷◌, flat_map, memory_more, refused_then, writes_memory, cut_back, front_then, left_same, joined, parts_of, framed_length, tagged_length, with_list}
use Rattle.pgp_message_write.proofs.list_message.list_message.Goals as goal

pub returns-in-Err : goal.returns-in-Err
returns-in-Err g c =
    let ps = with_list (parts_of c.args.head.now) (flat_map g.I.Item.parts c.args.items.now) (parts_of c.args.tail.now) in (
      refused_then (g.B.Buffer.held c.args.buf.now) _ (c.args.tag ∷ []) _ _ _ _ c.in_ok-put_u8.ensures.ok (omega (arith, framed_length (joined ps), tagged_length c.args.tag (joined ps))) c.in-Err.ensures.cause,
      cut_back _ _ _ c.len-start.result (front_then _ _ _ _ c.in_ok-put_u8.ensures.ok c.in-Err.ensures.err) c.len-start.ensures.value c.truncate.ensures.bytes c.truncate.ensures.kept,
    )

pub returns-in_err-put_u8 : goal.returns-in_err-put_u8
returns-in_err-put_u8 g c =
    let ps = with_list (parts_of c.args.head.now) (flat_map g.I.Item.parts c.args.items.now) (parts_of c.args.tail.now) in
    writes_memory _ _ _ _ (g.B.Buffer.held c.args.buf.now) _ c.from_residual.ensures.0 c.from_residual.ensures.1 (memory_more _ 1 _ _ (omega (arith, tagged_length c.args.tag (joined ps))) c.in_err-put_u8.ensures.cause) (left_same _ _ c.in_err-put_u8.ensures.err)
