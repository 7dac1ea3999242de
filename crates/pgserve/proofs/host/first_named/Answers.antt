use Rattle.std.proofs.Common.{◌≡◌, rules, tests}
use Rattle.std.proofs.lemmas.Iterator.{first_from_find, YieldsList-from_slice}
use Rattle.pgserve.proofs.Firsts.{first_found}
use Rattle.pgserve.proofs.host.first_named.Goals as goal

pub returns-clause-some : goal.returns-clause-some
returns-clause-some c = first_found (λ other. other.name.items ≡ c.args.name.now) c.args.users.now c.find.result
    (first_from_find _ _ c.find.result (λ other. other.name.items ≡ c.args.name.now) (λ other. other.name.items ≡ c.args.name.now → ⊥) c.find.ensures.ran
    (YieldsList-from_slice c.args.users.now cc) (λ x q k. search (rules, tests)) (λ x q k. search (rules, tests)))
