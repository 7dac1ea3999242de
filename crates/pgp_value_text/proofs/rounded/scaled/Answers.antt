use Rattle.std.proofs.Common.{◌*◌, ◌^◌, ◌<◌, arith}
use Rattle.pgp_value_text.proofs.Rounding.{product_small, twos_small}
use Rattle.pgp_value_text.proofs.rounded.scaled.Goals as goal

pub pow-requires-2 : goal.pow-requires-2
pow-requires-2 c = omega (arith, twos_small c.args.shift c.requires.small.1)

pub closest-requires-clause-small : goal.closest-requires-clause-small
closest-requires-clause-small c =
    let product : c.from.result * c.pow.result < 2 ^ 118 = rw (c.from.ensures, c.pow.ensures) (product_small c.args.num c.args.places c.requires.small.0 c.requires.small.2) in
    (omega (arith, product), rw (c.pow-2.ensures) (twos_small c.args.shift c.requires.small.1))
