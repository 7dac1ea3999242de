use Rattle.pgp_auth.proofs.Common.{if_err_at}
use Rattle.pgp_auth.proofs.BothWays.{update_memory, finish_memory}
use Rattle.pgp_auth.proofs.laws.exchange.Goals as goal

pub returns-in_err-update-clause-memory : goal.returns-in_err-update-clause-memory
returns-in_err-update-clause-memory g c =
    if_err_at c.from_residual.result _ _ c.from_residual.ensures.1
    (update_memory _ _ _ c.args.server_first.now c.args.server_final.now _ c.requires c.in_err-update.ensures.err)

pub returns-clause-memory : goal.returns-clause-memory
returns-clause-memory g c =
    finish_memory _ c.finish.result _ _ _ c.args.server_first.now c.args.server_final.now c.requires c.in_ok-update.ensures.ok c.finish.ensures.err
