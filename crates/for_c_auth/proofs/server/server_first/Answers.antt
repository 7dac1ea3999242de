use Rattle.for_c_auth.proofs.Common.{inl}
use Rattle.for_c_auth.proofs.server.server_first.Goals as goal

pub returns-clause-why : goal.returns-clause-why
returns-clause-why g c z = inl c.in-Err.ensures.err.1
