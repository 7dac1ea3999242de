use Rattle.pgp_session.proofs.Common.{length, map, plain}
use Rattle.pgp_session.proofs.OptionNames.{HasListed}
use Rattle.pgp_session.proofs.serving_versions.startup_options.Given as goal

abbrev pub invariant-pairs : goal.invariant-pairs
invariant-pairs g l = HasListed (plain l.fn.parameters) (plain l.parameters) (map (λ text. text.now) l.names.items)

abbrev pub decreases-pairs : goal.decreases-pairs
decreases-pairs g l = length l.parameters
