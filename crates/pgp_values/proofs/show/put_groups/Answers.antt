use Rattle.pgp_values.proofs.Common.{◌*◌, arith, map, wants_then, decimal_at, run, letter}
use Rattle.pgp_values.proofs.GroupTexts.{groups_more}
use Rattle.pgp_values.proofs.TextLemmas.{letters_length}
use Rattle.pgp_values.proofs.show.put_groups.Goals as goal

pub returns-in-Err-clause-cause : goal.returns-in-Err-clause-cause
returns-in-Err-clause-cause g c =
    let memory = c.in-Err.ensures.cause in
    let f = decimal_at c.args.d.now.digits in
    (memory.0, wants_then (g.B.Buffer.held c.args.out.now) _ (map letter (run f (4 * c.args.first) (4 * c.loop-i.i))) 4 _ c.loop-i.invariant (omega (arith, letters_length f (4 * c.args.first) (4 * c.loop-i.i))) memory.1)

pub loop-i-preserved : goal.loop-i-preserved
loop-i-preserved g c = groups_more c.args.d.now.digits c.args.first c.loop-i.i c.digit.result (g.B.Buffer.held c.args.out.now) _ _ c.digit.ensures.value c.loop-i.invariant c.in-Ok.ensures.ok
