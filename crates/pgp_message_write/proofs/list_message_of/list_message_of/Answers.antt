use Rattle.pgp_message_write.proofs.Common.{arith, [], ◌++◌, Yielded, memory_more, cut_back, front_then, left_same, framed, joined, parts_of, tagged, tagged_length, list_parts, number_cause}
use Rattle.std.specs.Prelude.{Some}
use Rattle.pgp_message_write.proofs.GivenLists.{given_memory, tagged_refused}
use Rattle.pgp_message_write.proofs.list_message_of.list_message_of.Goals as goal

pub returns-in-Ok : goal.returns-in-Ok
returns-in-Ok g c =
    let k = c.in-Ok.ensures.ok in
    let ps = parts_of c.args.head.now ++ list_parts c.args.ending g.T.Item.parts k.0 in
    (k.0, k.1, k.2, tagged c.args.tag (joined ps) (g.B.Buffer.held c.args.buf.now) _ _ c.in_ok-put_u8.ensures.ok k.3)

pub returns-in-Err : goal.returns-in-Err
returns-in-Err g c = (
  tagged_refused _ (number_cause c.args.ending) (λ xs. parts_of c.args.head.now ++ list_parts c.args.ending g.T.Item.parts xs) c.args.tag (g.B.Buffer.held c.args.buf.now) _ c.in_ok-put_u8.ensures.ok _ c.in-Err.ensures.cause,
  cut_back _ _ _ c.len-start.result (front_then _ _ _ _ c.in_ok-put_u8.ensures.ok c.in-Err.ensures.err) c.len-start.ensures.value c.truncate.ensures.bytes c.truncate.ensures.kept,
)

pub returns-in_err-put_u8 : goal.returns-in_err-put_u8
returns-in_err-put_u8 g c =
    let ps = parts_of c.args.head.now ++ list_parts c.args.ending g.T.Item.parts [] in
    given_memory (Yielded g.I.IntoIterator.into_iter_gives g.I.IntoIter.Iterator.next_gives c.args.items) (number_cause c.args.ending) (λ xs. parts_of c.args.head.now ++ list_parts c.args.ending g.T.Item.parts xs) (λ xs. framed (Some c.args.tag) (joined (parts_of c.args.head.now ++ list_parts c.args.ending g.T.Item.parts xs)))
    _ _ (g.B.Buffer.held c.args.buf.now) _ c.from_residual.ensures.0 c.from_residual.ensures.1 (memory_more _ 1 _ _ (omega (arith, tagged_length c.args.tag (joined ps))) c.in_err-put_u8.ensures.cause) (left_same _ _ c.in_err-put_u8.ensures.err)
