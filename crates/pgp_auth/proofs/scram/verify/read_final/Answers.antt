use Rattle.pgp_auth.proofs.Common.{sym, ◌∙◌, inl, server, if_err_at}
use Rattle.pgp_auth.proofs.FinalTexts.{text_no}
use Rattle.pgp_auth.proofs.scram.verify.read_final.Goals as goal

pub returns-then-not-is_text-clause-err : goal.returns-then-not-is_text-clause-err
returns-then-not-is_text-clause-err g c = inl (text_no c.args.message.now (sym c.is_text.ensures ∙ c.if-not-is_text.true))

pub returns-in_err-reason-clause-err : goal.returns-in_err-reason-clause-err
returns-in_err-reason-clause-err g c = if_err_at c.from_residual.result _ _ c.from_residual.ensures.1 c.in_err-reason.ensures.err

pub returns-then-is_error-clause-err : goal.returns-then-is_error-clause-err
returns-then-is_error-clause-err g c = inl (server c.in_ok-reason.ensures.ok)
