use Rattle.pgp_frontend.proofs.Common.{w32, to_be_bytes, ap, ◌∙◌, int32}
use Rattle.std.proofs.Math.Facts.{to_z-of_z}
use Rattle.pgp_frontend.proofs.Keys.{number_key, same_cancel}
use Rattle.pgp_frontend.proofs.startup.cancel_request.Goals as goal

pub returns : goal.returns
returns g c =
    let key = number_key _ _ (c.u32_bytes.ensures ∙ ap (to_be_bytes w32) c.cast_unsigned.ensures) ∙ ap int32 (to_z-of_z c.ranges.secret_key) in
    same_cancel g.B.Buffer.Lacks (g.B.Buffer.held c.args.buf.now) (g.B.Buffer.held c.cancel_request_key.new.buf) c.cancel_request_key.result (to_z-of_z c.ranges.process_id) key c.cancel_request_key.ensures
