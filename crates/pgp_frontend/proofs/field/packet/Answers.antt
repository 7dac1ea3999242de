use Rattle.pgp_frontend.proofs.Common.{cut_back, left_same, left_then, wants_here, writes_out, refused_same}
use Rattle.pgp_frontend.proofs.field.packet.Goals as goal

pub returns-in-Err : goal.returns-in-Err
returns-in-Err g c =
    (refused_same _ _ _ _ _ c.in_ok-reserve.ensures.same c.in-Err.ensures.cause, left_then _ _ _ c.in_ok-reserve.ensures.same (cut_back _ _ _ c.len-start.result c.in-Err.ensures.err c.len-start.ensures.value c.truncate.ensures.bytes c.truncate.ensures.kept))

pub returns-in_err-reserve : goal.returns-in_err-reserve
returns-in_err-reserve g c =
    writes_out _ _ _ _ _ _ c.from_residual.ensures.0 c.from_residual.ensures.1 (wants_here (g.B.Buffer.held c.args.buf.now) _ _ c.in_err-reserve.ensures.lacks c.room.ensures.needed) (left_same _ _ c.in_err-reserve.ensures.same)
