use Rattle.pgp_session.proofs.Common.{◌≡◌, ℕ, List, map, take, is_option, filter}
use Rattle.pgp_frontend.specs.Given.{shown as shown_pair}
use Rattle.pgp_session.proofs.protocol_options.option_names.Given as goal

abbrev pub invariant-each : goal.invariant-each
invariant-each g l = l.names.items ≡ filter is_option (map (λ (p : List ℕ × List ℕ). p.0) (map shown_pair (take l.parameter-index l.parameters)))
