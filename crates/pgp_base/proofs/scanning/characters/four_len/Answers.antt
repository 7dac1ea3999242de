use Rattle.pgp_base.proofs.Common.{arith}
use Rattle.pgp_base.proofs.CharacterLemmas.{four_begin, none_begins}
use Rattle.pgp_base.proofs.scanning.characters.four_len.Goals as goal

pub returns-in-len4-up : goal.returns-in-len4-up
returns-in-len4-up c = four_begin c.args.bytes.now (omega arith) (c.are_four.ensures.0 c.if-are_four.true)

pub returns-in_default : goal.returns-in_default
returns-in_default c = none_begins c.args.bytes.now (omega arith) (λ l t. absurd (omega (arith, t))) (λ l t. absurd (omega (arith, t))) (λ l t. absurd (omega arith))

pub returns-in_default-2 : goal.returns-in_default-2
returns-in_default-2 c = none_begins c.args.bytes.now (omega arith) (λ l t. absurd (omega (arith, t))) (λ l t. absurd (omega (arith, t))) (λ l t. let e = c.if-are_four.ensures.1 t in absurd cc)
