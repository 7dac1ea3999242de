use Rattle.pgp_frontend.proofs.Common.{cut_back}
use Rattle.pgp_frontend.proofs.over_bytes.parse.Goals as goal

pub returns-in-Err : goal.returns-in-Err
returns-in-Err g c =
    (c.in-Err.ensures.cause, cut_back _ _ _ c.len-start.result c.in-Err.ensures.err c.len-start.ensures.value c.truncate.ensures.bytes c.truncate.ensures.kept)
