use Rattle.pgp_frontend.proofs.Common.{◌≡◌, ap, ◌∙◌, ◌++◌, [], arith, length, length-append, cut_back, wants_more}
use Rattle.pgp_frontend.proofs.Needs.{tagged_length}
use Rattle.pgp_frontend.proofs.copy.CopyData.write.Goals as goal

pub returns-in-Err-clause-err : goal.returns-in-Err-clause-err
returns-in-Err-clause-err g c =
    let unread = g.T.Buf.unread c.args.self in
    let same : length (g.T.Buf.unread c.self.inside.buf) ≡ length unread = ap (λ buf. length (g.T.Buf.unread buf)) c.self.view_is in
    let size = tagged_length 100 (unread ++ []) in
    (c.in-Err.ensures.kept ∙ c.self.view_is, wants_more _ _ _ (omega (arith, size, length-append unread [], same)) c.in-Err.ensures.lacks, cut_back _ _ _ c.len-start.result c.in-Err.ensures.err c.len-start.ensures.value c.truncate.ensures.bytes c.truncate.ensures.kept)
