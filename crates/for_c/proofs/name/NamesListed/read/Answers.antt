use Rattle.for_c.proofs.Common.{rules, arith, text_at, TextSpelled, TextRefused, text_reader}
use Rattle.for_c.proofs.Listings.{reader_found, reader_shorter, text_fits, text_item}
use Rattle.for_c.proofs.name.NamesListed.read.Goals as goal

pub returns-in-Err-clause-refused : goal.returns-in-Err-clause-refused
returns-in-Err-clause-refused c = text_reader.refused c.args.at c.args.rest.now _ (search rules) c.in-Err.ensures

pub returns-in-Ok-clause-item : goal.returns-in-Ok-clause-item
returns-in-Ok-clause-item c bytes stands =
    reader_found TextSpelled TextRefused (λ place. text_at) text_reader c.args.at c.args.rest.now c.in-Ok.name.now _ c.in-Ok.more.now (search rules) c.in-Ok.ensures
    (text_item bytes c.args.rest.now c.in-Ok.name.now c.in-Ok.more.now c.args.at (search rules) c.in-Ok.ensures stands)

pub returns-in-Ok-clause-shorter : goal.returns-in-Ok-clause-shorter
returns-in-Ok-clause-shorter c =
    reader_shorter TextSpelled TextRefused (λ place. text_at) text_reader c.args.at c.args.rest.now c.in-Ok.name.now c.in-Ok.more.now (search rules) c.in-Ok.ensures

pub returns-in-Ok-clause-inside : goal.returns-in-Ok-clause-inside
returns-in-Ok-clause-inside c size within =
    omega (arith, within, text_fits c.args.rest.now c.in-Ok.name.now c.in-Ok.more.now (search rules) c.in-Ok.ensures)
