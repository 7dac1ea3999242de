use Rattle.pgp_auth.proofs.Common.{refl, ap, inr, ◌∙◌, refusal}
use Rattle.pgp_auth.specs.ScramClient.{error}
use Rattle.pgp_auth.proofs.FinalTexts.{error_is, if_err_from}
use Rattle.pgp_auth.proofs.scram.verify.server_error.Goals as goal

pub returns-in_err-text_of-in-Ok-clause-err : goal.returns-in_err-text_of-in-Ok-clause-err
returns-in_err-text_of-in-Ok-clause-err g c =
    let is = error_is c.args.message.now c.in_ok-reason.reason.now c.in_ok-reason.reason.now c.requires.text c.in_ok-reason.ensures refl in
    if_err_from c.from_residual-in_err-text_of-in-Ok.result _ _ c.from_residual-in_err-text_of-in-Ok.ensures.1
    (λ e same. inr (ap refusal same, c.in_err-text_of-in-Ok.ensures.lacks, error is))

pub returns-in_ok-text_of-in-Ok-clause-ok : goal.returns-in_ok-text_of-in-Ok-clause-ok
returns-in_ok-text_of-in-Ok-clause-ok g c =
    error_is c.args.message.now c.in_ok-reason.reason.now _ c.requires.text c.in_ok-reason.ensures (c.in_ok-text_of-in-Ok.ensures.bytes ∙ c.in-Ok.ensures.cases.0)
