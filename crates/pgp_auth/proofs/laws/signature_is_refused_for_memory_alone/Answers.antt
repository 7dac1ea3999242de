use Rattle.pgp_auth.proofs.Once.{verified_memory}
use Rattle.pgp_auth.proofs.laws.signature_is_refused_for_memory_alone.Goals as goal

pub returns : goal.returns
returns g c = λ text signature e before after v refused. verified_memory _ text signature e before after v refused
