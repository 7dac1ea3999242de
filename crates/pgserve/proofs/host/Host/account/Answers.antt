use Rattle.std.proofs.Common.{inl, refl, rules}
use Rattle.pgserve.proofs.host.Host.account.Goals as goal

pub returns-in-Some : goal.returns-in-Some
returns-in-Some c = inl (c.in-Some.known.now, c.in-Some.ensures.some, refl, search rules, refl)
