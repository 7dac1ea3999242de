use Rattle.pgp_base.proofs.AsciiLemmas.{ascii_is_text}
use Rattle.pgp_base.proofs.scanning.utf8.is_long_text.Goals as goal

pub returns-then-are_ascii_from : goal.returns-then-are_ascii_from
returns-then-are_ascii_from c = (λ yes. ascii_is_text c.args.bytes.now c.lanes.at c.lanes.invariant.1 (c.are_ascii_from.ensures yes), λ _. c.if-are_ascii_from.true)
