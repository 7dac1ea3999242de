use Rattle.pgtrace_lines.proofs.OneListing.{one_listing}
use Rattle.pgtrace_lines.proofs.laws.one_listing.Goals as goal

pub returns : goal.returns
returns c = one_listing
