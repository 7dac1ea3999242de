use Rattle.std.proofs.Common.{◌≡◌, ℕ, rules, tests}
use Rattle.std.proofs.lemmas.Iterator.{first_from_find, YieldsList-from_slice}
use Rattle.pgserve.proofs.Firsts.{first_found}
use Rattle.pgserve.proofs.session.Session.turn_of.Goals as goal

pub returns-clause-some : goal.returns-clause-some
returns-clause-some c = first_found (λ (other : ℕ × ℕ). other.0 ≡ c.args.first) c.args.self.now.turns.items c.find.result
    (first_from_find _ _ c.find.result (λ (other : ℕ × ℕ). other.0 ≡ c.args.first) (λ (other : ℕ × ℕ). other.0 ≡ c.args.first → ⊥) c.find.ensures.ran
    (YieldsList-from_slice c.args.self.now.turns.items cc) (λ x q k. search (rules, tests)) (λ x q k. search (rules, tests)))
