use Rattle.pgp_auth.proofs.Common.{if_err_at}
use Rattle.pgp_auth.proofs.FinalTexts.{error_kept}
use Rattle.pgp_auth.proofs.scram.verify.verify.Goals as goal

pub returns-in_err-shown-clause-err : goal.returns-in_err-shown-clause-err
returns-in_err-shown-clause-err g c =
    if_err_at c.from_residual.result _ _ c.from_residual.ensures.1 (error_kept _ c.args.message.now _ _ c.args.made.now c.in_err-shown.ensures.err)
