use Rattle.std.proofs.Common.{inl, inr, refl, rules}
use Rattle.pgserve.proofs.session.Session.called_now.Goals as goal

pub returns-then-eq-clause-now : goal.returns-then-eq-clause-now
returns-then-eq-clause-now c = (c.now-found.result.now, c.now-found.ensures, inl (search rules, refl))

pub returns-else-eq-clause-now : goal.returns-else-eq-clause-now
returns-else-eq-clause-now c = (c.now-found.result.now, c.now-found.ensures, inr (search rules, refl))
