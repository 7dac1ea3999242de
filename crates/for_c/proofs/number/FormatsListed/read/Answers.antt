use Rattle.for_c.proofs.Common.{rules, uint16_at, format_at, FormatSpelled, FormatRefused, format_reader}
use Rattle.for_c.proofs.Listings.{number_short, number_whole, reader_shorter}
use Rattle.for_c.proofs.number.FormatsListed.read.Goals as goal

pub returns-in-Err-clause-refused : goal.returns-in-Err-clause-refused
returns-in-Err-clause-refused c =
    format_reader.refused c.args._at c.args.rest.now _ (search rules) (number_short (uint16_at c.args.rest.now) _ c.in-Err.ensures)

pub returns-in-Ok-clause-item : goal.returns-in-Ok-clause-item
returns-in-Ok-clause-item c bytes stands =
    format_reader.found c.args._at c.args.rest.now c.in-Ok.number c.in-Ok.more.now (search rules) (number_whole (uint16_at c.args.rest.now) _ c.in-Ok.ensures)

pub returns-in-Ok-clause-shorter : goal.returns-in-Ok-clause-shorter
returns-in-Ok-clause-shorter c =
    reader_shorter FormatSpelled FormatRefused (λ place. format_at) format_reader c.args._at c.args.rest.now c.in-Ok.number c.in-Ok.more.now (search rules) (number_whole (uint16_at c.args.rest.now) _ c.in-Ok.ensures)
