use Rattle.pgp_frontend.proofs.Common.{arith, [], ◌∷◌, ap, ◌∙◌, ◌⊕◌, cut_back, front_then, left_same, left_then, wants_here, wants_same, writes_out, joined, parts_of, memory_more, refused_then, writes_memory}
use Rattle.pgp_frontend.proofs.Needs.{framed_length, tagged_length}
use Rattle.pgp_frontend.proofs.field.message.Goals as goal

pub returns-in-Err : goal.returns-in-Err
returns-in-Err g c = (
  refused_then (g.B.Buffer.held c.args.buf.now) _ (c.args.tag ∷ []) _ _ _ _ (c.in_ok-put_u8.ensures.ok ∙ ap (λ held. held ⊕ c.args.tag ∷ []) c.in_ok-reserve.ensures.same) (omega (arith, framed_length (joined (parts_of c.args.fields.now)), tagged_length c.args.tag (joined (parts_of c.args.fields.now)))) c.in-Err.ensures.cause,
  left_then _ _ _ c.in_ok-reserve.ensures.same (cut_back _ _ _ c.len-start.result (front_then _ _ _ _ c.in_ok-put_u8.ensures.ok c.in-Err.ensures.err) c.len-start.ensures.value c.truncate.ensures.bytes c.truncate.ensures.kept),
)

pub returns-in_err-reserve : goal.returns-in_err-reserve
returns-in_err-reserve g c =
    let fits = c.room.ensures.needed in
    writes_out _ _ _ _ _ _ c.from_residual.ensures.0 c.from_residual.ensures.1 (wants_here (g.B.Buffer.held c.args.buf.now) _ _ c.in_err-reserve.ensures.lacks (omega (arith, fits, framed_length (joined (parts_of c.args.fields.now)), tagged_length c.args.tag (joined (parts_of c.args.fields.now))))) (left_same _ _ c.in_err-reserve.ensures.same)

pub returns-in_err-put_u8 : goal.returns-in_err-put_u8
returns-in_err-put_u8 g c =
    let same = c.in_ok-reserve.ensures.same in
    let memory = memory_more _ 1 _ _ (omega (arith, tagged_length c.args.tag (joined (parts_of c.args.fields.now)))) c.in_err-put_u8.ensures.cause in
    writes_memory _ _ _ _ (g.B.Buffer.held c.args.buf.now) _ c.from_residual-in_err-put_u8.ensures.0 c.from_residual-in_err-put_u8.ensures.1 (memory.0, wants_same _ _ _ same memory.1) (left_same _ _ (c.in_err-put_u8.ensures.err ∙ same))
