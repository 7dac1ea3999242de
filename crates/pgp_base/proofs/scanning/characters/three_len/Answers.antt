use Rattle.pgp_base.proofs.Common.{arith}
use Rattle.pgp_base.proofs.CharacterLemmas.{three_begin, none_begins}
use Rattle.pgp_base.proofs.scanning.characters.three_len.Goals as goal

pub returns-in-len3-up : goal.returns-in-len3-up
returns-in-len3-up c = three_begin c.args.bytes.now (omega arith) (c.are_three.ensures.0 c.if-are_three.true)

pub returns-in_default : goal.returns-in_default
returns-in_default c = none_begins c.args.bytes.now (omega arith) (λ l t. absurd (omega (arith, t))) (λ l t. absurd (omega arith)) (λ l t. absurd (omega (arith, t)))

pub returns-in_default-2 : goal.returns-in_default-2
returns-in_default-2 c = none_begins c.args.bytes.now (omega arith) (λ l t. absurd (omega (arith, t))) (λ l t. let e = c.if-are_three.ensures.1 t in absurd cc) (λ l t. absurd (omega (arith, t)))
