use Rattle.pgtrace_session.proofs.OneSession.{one_listing}
use Rattle.pgtrace_session.proofs.laws.one_listing.Goals as goal

pub returns : goal.returns
returns c = one_listing c.one_text.ensures c.texts_are_unique.ensures.of_date
