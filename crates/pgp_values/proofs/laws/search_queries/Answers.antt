use Rattle.pgp_values.proofs.QueryLemmas.{tsquery_sound}
use Rattle.pgp_values.proofs.laws.search_queries.Goals as goal

pub returns : goal.returns
returns c = tsquery_sound
