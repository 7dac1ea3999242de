use Rattle.std.proofs.Common.{◌*◌, ◌^◌, ◌≡◌, arith, ap, ◌∙◌}
use Rattle.pgp_value_text.proofs.Limbs.{closest_one, ten_least}
use lib.Ieee.Nearest.{closest}
use Rattle.pgp_value_text.proofs.tens.cut_of.Goals as goal

pub returns-clause-cut : goal.returns-clause-cut
returns-clause-cut c =
    let is : c.closest.result ≡ closest c.args.doubled (2 * 10 ^ 27) = c.closest.ensures ∙ ap (λ n. closest c.args.doubled (2 * n)) c.pow-2.ensures in
    record {
      some = omega arith;
      is = is;
      fits = omega (arith, is, closest_one c.args.doubled c.requires.small, ten_least c.args.digits c.requires.digits.0);
      fewest = λ k p l. c.tens.invariant k p (omega (arith, l, c.tens-test.false));
    }
