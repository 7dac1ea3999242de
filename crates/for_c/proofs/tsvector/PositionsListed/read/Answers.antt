use Rattle.for_c.proofs.Common.{rules, uint16_at, count_is}
use Rattle.for_c.proofs.Listings.{number_whole}
use Rattle.for_c.proofs.tsvector.PositionsListed.read.Goals as goal

pub returns-in-Ok-clause-item : goal.returns-in-Ok-clause-item
returns-in-Ok-clause-item c bytes stands =
    let b = count_is.found c.args.rest.now c.in-Ok.position c.in-Ok.more.now (search rules) (number_whole (uint16_at c.args.rest.now) _ c.in-Ok.ensures) in
    record { front = b.front; whole = b.whole; spelled = b.spelled }
