use Rattle.pgp_frontend.proofs.Common.{cut_back}
use Rattle.pgp_frontend.proofs.over_bytes.bind.Goals as goal

pub returns : goal.returns
returns g c =
    (c.fill_bind.new.serializer, (c.in-Err.ensures.cause, cut_back _ _ _ c.len-start.result c.in-Err.ensures.err c.len-start.ensures.value c.truncate.ensures.bytes c.truncate.ensures.kept))
