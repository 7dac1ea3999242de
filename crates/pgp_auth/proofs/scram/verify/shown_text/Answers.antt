use Rattle.pgp_auth.proofs.FinalTexts.{final_refused, final_is, if_err_from}
use Rattle.pgp_auth.proofs.scram.verify.shown_text.Goals as goal

pub returns-in_err-run_behind-clause-err : goal.returns-in_err-run_behind-clause-err
returns-in_err-run_behind-clause-err g c =
    if_err_from c.from_residual.result _ _ c.from_residual.ensures.1
    (λ e same. final_refused c.args.message.now c.in_err-run_behind.field-0.0 _ c.requires.text c.requires.not_error c.in_err-run_behind.ensures same)

pub returns-clause-ok : goal.returns-clause-ok
returns-clause-ok g c = final_is c.args.message.now c.in_ok-run_behind.field-0.now c.in_ok-run_behind.ensures
