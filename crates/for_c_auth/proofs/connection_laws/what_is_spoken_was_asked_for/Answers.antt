use Rattle.for_c_auth.proofs.Runs.{speaks}
use Rattle.for_c_auth.proofs.connection_laws.what_is_spoken_was_asked_for.Goals as goal

pub returns : goal.returns
returns c = λ w gave heard turns now run. speaks w run
