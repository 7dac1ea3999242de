-- What was added and what is left make the whole figure.
use Rattle.pgp_value_text.proofs.Common.{drop, map, shown_number}
use Rattle.pgp_value_text.proofs.Figures.{Left}
use Rattle.pgp_value_text.proofs.figure.push_numbers.Given as goal

abbrev pub invariant-each : goal.invariant-each
invariant-each g l = Left (map shown_number l.numbers) l.end l.fn.out.items (map shown_number (drop l.number-index l.numbers)) l.out.items
