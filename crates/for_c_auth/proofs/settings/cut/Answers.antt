use Rattle.for_c_auth.proofs.Common.{rules}
use Rattle.for_c_auth.proofs.Kept.{rotated_end}
use Rattle.for_c_auth.proofs.settings.cut.Goals as goal

pub returns-clause-rest : goal.returns-clause-rest
returns-clause-rest c = rotated_end c.args.room.now c.rotate_left.new.self c.args.start c.args.end c.args.len c.requires.fits c.requires.ordered c.requires.within (search rules)
