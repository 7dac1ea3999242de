use Rattle.pgp_base.proofs.Common.{arith}
use Rattle.pgp_base.proofs.CharacterLemmas.{two_begin, none_begins}
use Rattle.pgp_base.proofs.scanning.characters.two_len.Goals as goal

pub returns-in-len2-up : goal.returns-in-len2-up
returns-in-len2-up c = two_begin c.args.bytes.now (omega arith) (c.are_two.ensures.0 c.if-are_two.true)

pub returns-in_default : goal.returns-in_default
returns-in_default c = none_begins c.args.bytes.now (omega arith) (λ l t. absurd (omega arith)) (λ l t. absurd (omega (arith, t))) (λ l t. absurd (omega (arith, t)))

pub returns-in_default-2 : goal.returns-in_default-2
returns-in_default-2 c = none_begins c.args.bytes.now (omega arith) (λ l t. let e = c.if-are_two.ensures.1 t in absurd cc) (λ l t. absurd (omega (arith, t))) (λ l t. absurd (omega (arith, t)))
