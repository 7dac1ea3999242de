use Rattle.pgp_login.proofs.Common.{inl, rules}
use Rattle.pgp_login.proofs.Exchanges.{unbegun_none}
use Rattle.pgp_login.proofs.held.begin.Goals as goal

pub returns-in_default-clause-said : goal.returns-in_default-clause-said
returns-in_default-clause-said g c = inl (unbegun_none g.A.Memory.Lacks c.args.exchange.now (search rules))
