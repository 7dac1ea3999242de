use Rattle.for_c.proofs.Common.{rules}
use Rattle.for_c.proofs.Rows.{headed}
use Rattle.for_c.specs.Rows.{Full, Malformed, NoRow}
use Rattle.for_c.proofs.row.pgp_row.Goals as goal

pub returns-in_default-clause-refused : goal.returns-in_default-clause-refused
returns-in_default-clause-refused c some =
    let front = c.no_row.ensures.front in
    NoRow (c.in_default.ensures.none (search rules)) front.0 front.1 front.2 front.3

pub returns-then-announced-columns-clause-refused : goal.returns-then-announced-columns-clause-refused
returns-then-announced-columns-clause-refused c some = Full c.in-Some.ensures.some (search rules)

pub places-code-requires-clause-head : goal.places-code-requires-clause-head
places-code-requires-clause-head c = headed c.args.bytes.now c.in-Some.end c.in-Some.announced c.in-Some.ensures.some

pub returns-else-code-eq0-clause-refused : goal.returns-else-code-eq0-clause-refused
returns-else-code-eq0-clause-refused c some =
    Malformed c.in-Some.ensures.some (search rules) (c.places-code.ensures.malformed some) c.places-code.ensures.behind
