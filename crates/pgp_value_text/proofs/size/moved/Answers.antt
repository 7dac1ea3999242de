use Rattle.std.proofs.Common.{◌*◌, ◌^◌, arith}
use Rattle.pgp_value_text.proofs.Cuts.{whole_down, whole_up}
use Rattle.pgp_value_text.proofs.Sizes.{not_zero}
use lib.Pow.{pow_pos}
use Rattle.pgp_value_text.proofs.size.moved.Goals as goal

pub returns-then-low-up-clause-shows : goal.returns-then-low-up-clause-shows
returns-then-low-up-clause-shows c =
    c.scientific.ensures.shows (c.args.num * 2 ^ c.args.up) (2 ^ c.args.low) (not_zero c.args.num c.args.up c.requires.some) (pow_pos c.args.low)
    (whole_up c.args.num c.args.up c.args.low c.if-low-up.true) c.requires.none

pub returns-else-low-up-clause-shows : goal.returns-else-low-up-clause-shows
returns-else-low-up-clause-shows c =
    c.scientific-else-low-up.ensures.shows (c.args.num * 2 ^ c.args.up) (2 ^ c.args.low) (not_zero c.args.num c.args.up c.requires.some) (pow_pos c.args.low)
    (whole_down c.args.num c.args.up c.args.low (omega (arith, c.if-low-up.false))) c.requires.none
