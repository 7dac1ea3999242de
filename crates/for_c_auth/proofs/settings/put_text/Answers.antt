use Rattle.for_c_auth.proofs.Common.{◌+◌, length, refl, rules}
use Rattle.for_c_auth.proofs.Kept.{text_put}
use Rattle.for_c_auth.proofs.settings.put_text.Goals as goal

pub returns-clause-text : goal.returns-clause-text
returns-clause-text c = text_put c.args.room.now c.args.written.now c.copy_from_slice.new.self c.args.at (c.args.at + length c.args.written.now) refl (search rules) (search rules)
