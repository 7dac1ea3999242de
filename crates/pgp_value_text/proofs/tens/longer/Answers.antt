use Rattle.std.proofs.Common.{◌<◌, true, sym, ◌∙◌, arith, true≢false}
use Rattle.pgp_value_text.proofs.Limbs.{front_behind}
use Rattle.pgp_value_text.proofs.tens.longer.Goals as goal

pub returns-then-limb-eq0-clause-front : goal.returns-then-limb-eq0-clause-front
returns-then-limb-eq0-clause-front c = λ v h.
    front_behind c.args.front.number c.args.front.limbs v c.args.limb c.args.front.more c.args.front.more c.if-front-lt1000000000000000000.false c.requires.digit h
    (λ e. (e, c.if-limb-eq0.true)) (λ e f. absurd (true≢false (sym e ∙ f)))

pub returns-else-limb-eq0-clause-front : goal.returns-else-limb-eq0-clause-front
returns-else-limb-eq0-clause-front c = λ v h.
    let some : 0 < c.args.limb = omega (arith, c.if-limb-eq0.false) in
    front_behind c.args.front.number c.args.front.limbs v c.args.limb c.args.front.more true c.if-front-lt1000000000000000000.false c.requires.digit h
    (λ e. absurd (true≢false e)) (λ e f. some)
