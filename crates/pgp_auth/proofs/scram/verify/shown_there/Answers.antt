use Rattle.pgp_auth.proofs.Common.{arith, if_err_at}
use Rattle.pgp_auth.proofs.FinalTexts.{long_not}
use Rattle.pgp_auth.proofs.scram.verify.shown_there.Goals as goal

pub returns-in_err-shown-clause-err : goal.returns-in_err-shown-clause-err
returns-in_err-shown-clause-err g c =
    if_err_at c.from_residual-in_err-shown.result _ _ c.from_residual-in_err-shown.ensures.1
    (long_not _ c.args.message.now c.in_ok-text.text.now c.in_err-shown.field-0.0 c.in_ok-text.ensures.ok (omega (arith, c.if-text-le-SHORT_LEN.false)) c.in_err-shown.ensures.err)
