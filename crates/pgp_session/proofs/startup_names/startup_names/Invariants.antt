use Rattle.pgp_session.proofs.Common.{codes, length, option_map, plain}
use Rattle.pgp_session.proofs.StartupNames.{HasNamed}
use Rattle.pgp_session.proofs.startup_names.startup_names.Given as goal

abbrev pub invariant-pairs : goal.invariant-pairs
invariant-pairs l = record {
  user : HasNamed (codes "user") (plain l.fn.parameters) (plain l.parameters) (option_map (λ text. text.now) l.user);
  database : HasNamed (codes "database") (plain l.fn.parameters) (plain l.parameters) (option_map (λ text. text.now) l.database);
}

abbrev pub decreases-pairs : goal.decreases-pairs
decreases-pairs l = length l.parameters
