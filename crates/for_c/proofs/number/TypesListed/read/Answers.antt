use Rattle.for_c.proofs.Common.{rules, oid_at, type_at, TypeSpelled, TypeRefused, type_reader}
use Rattle.for_c.proofs.Listings.{number_short, number_whole, reader_shorter}
use Rattle.for_c.proofs.number.TypesListed.read.Goals as goal

pub returns-in-Err-clause-refused : goal.returns-in-Err-clause-refused
returns-in-Err-clause-refused c =
    type_reader.refused c.args._at c.args.rest.now _ (search rules) (number_short (oid_at c.args.rest.now) _ c.in-Err.ensures)

pub returns-in-Ok-clause-item : goal.returns-in-Ok-clause-item
returns-in-Ok-clause-item c bytes stands =
    type_reader.found c.args._at c.args.rest.now c.in-Ok.number c.in-Ok.more.now (search rules) (number_whole (oid_at c.args.rest.now) _ c.in-Ok.ensures)

pub returns-in-Ok-clause-shorter : goal.returns-in-Ok-clause-shorter
returns-in-Ok-clause-shorter c =
    reader_shorter TypeSpelled TypeRefused (λ place. type_at) type_reader c.args._at c.args.rest.now c.in-Ok.number c.in-Ok.more.now (search rules) (number_whole (oid_at c.args.rest.now) _ c.in-Ok.ensures)
