use Rattle.pgp_session.proofs.Sessions.{speaks_3_2, speaks_over}
use Rattle.pgp_session.specs.Connection.{version_of}
use Rattle.pgp_session.proofs.laws.who_asks_for_3_2_alone_speaks_it.Goals as goal

pub returns : goal.returns
returns c = λ ways h now asked k. speaks_3_2 now.offered.versions (version_of now) asked (speaks_over now.phase now.offered.versions now.server.state.version k.speaks)
