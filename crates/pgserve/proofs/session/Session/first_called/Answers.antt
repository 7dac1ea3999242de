use Rattle.std.proofs.Common.{◌≡◌, rules, tests}
use Rattle.std.proofs.lemmas.Iterator.{first_from_find, YieldsList-from_slice}
use Rattle.pgserve.specs.declared.script.By.TheVariants.{Function}
use Rattle.pgserve.proofs.Firsts.{first_found}
use Rattle.pgserve.proofs.session.Session.first_called.Goals as goal

pub returns-clause-some : goal.returns-clause-some
returns-clause-some c = first_found (λ other. other.by ≡ Function c.args.function) c.args.self.now.script.now.statements.items c.find.result
    (first_from_find _ _ c.find.result (λ other. other.by ≡ Function c.args.function) (λ other. other.by ≡ Function c.args.function → ⊥) c.find.ensures.ran
    (YieldsList-from_slice c.args.self.now.script.now.statements.items cc) (λ x q k. search (rules, tests)) (λ x q k. search (rules, tests)))
