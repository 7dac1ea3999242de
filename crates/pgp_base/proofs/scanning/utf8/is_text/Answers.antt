use Rattle.pgp_base.proofs.Common.{arith}
use Rattle.pgp_base.proofs.AsciiLemmas.{ascii_is_text}
use Rattle.pgp_base.proofs.scanning.utf8.is_text.Goals as goal

pub returns-then-are_ascii : goal.returns-then-are_ascii
returns-then-are_ascii c = (λ yes. ascii_is_text c.args.bytes.now 0 (λ k low up. absurd (omega (arith, low, up))) (c.are_ascii.ensures yes), λ _. c.if-are_ascii.true)

pub returns-then-are_ascii_short : goal.returns-then-are_ascii_short
returns-then-are_ascii_short c = (λ yes. ascii_is_text c.args.bytes.now 0 (λ k low up. absurd (omega (arith, low, up))) (c.are_ascii_short.ensures yes), λ _. c.if-are_ascii_short.true)
