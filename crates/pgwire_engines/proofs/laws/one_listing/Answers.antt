use Rattle.pgwire_engines.proofs.OneAnswer.{one_listing}
use Rattle.pgwire_engines.proofs.laws.one_listing.Goals as goal

pub returns : goal.returns
returns c = one_listing
