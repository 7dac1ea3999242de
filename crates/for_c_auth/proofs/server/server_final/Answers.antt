use Rattle.for_c_auth.proofs.Common.{inl, inr}
use Rattle.for_c_auth.proofs.Servers.{admits_delivered, admits_longer}
use Rattle.for_c_auth.proofs.server.server_final.Goals as goal

pub returns-in-Ok-finish-clause-sent : goal.returns-in-Ok-finish-clause-sent
returns-in-Ok-finish-clause-sent g c z = admits_delivered _ _ _ _ _ _ _ c.in-Ok.ensures.ok c.in-Ok-finish.ensures.ok _ _ _ (c.deliver.ensures.sent z)

pub returns-in-Ok-finish-clause-why : goal.returns-in-Ok-finish-clause-why
returns-in-Ok-finish-clause-why g c z =
    let why = c.deliver.ensures.why z in
    inr (inr (why.0, admits_longer _ _ _ _ _ _ _ c.in-Ok.ensures.ok c.in-Ok-finish.ensures.ok _ why.1))

pub returns-clause-why : goal.returns-clause-why
returns-clause-why g c z = inl c.in-Err.ensures.err.1
