use Rattle.pgp_frontend_read.proofs.Common.{◌≡◌, ap, marked, pair_at}
use Rattle.pgp_frontend_read.specs.declared.pairs.StartupParameters.TheInside.{Inside}
use Rattle.pgp_frontend_read.proofs.Spelled.{pairs_have, pairs_spelled}
use Rattle.pgp_frontend_read.proofs.pairs.StartupParameters.spelled.Goals as goal

pub returns-clause-has : goal.returns-clause-has
returns-clause-has c =
    let is : marked pair_at c.self-inside.inside.0.0.0.now ≡ c.self.inside.0 = ap (λ (x : Inside). x.0) c.self-inside.view_is in
    rw (← c.self.view_is) (pairs_have c.self-inside.inside.0.0.0.now c.self.inside.0 is c.self.invariant)

pub returns-clause-whole : goal.returns-clause-whole
returns-clause-whole c =
    let is : marked pair_at c.self-inside.inside.0.0.0.now ≡ c.self.inside.0 = ap (λ (x : Inside). x.0) c.self-inside.view_is in
    rw (← c.self.view_is) (pairs_spelled c.self-inside.inside.0.0.0.now c.self.inside.0 is c.self.invariant)
