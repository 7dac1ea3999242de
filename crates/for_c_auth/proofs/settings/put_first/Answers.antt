use Rattle.for_c_auth.proofs.Common.{◌+◌, arith, length, refl, length-take-le}
use Rattle.for_c_auth.proofs.Kept.{front_put}
use Rattle.for_c_auth.proofs.settings.put_first.Goals as goal

pub returns-clause-kept : goal.returns-clause-kept
returns-clause-kept c =
    let fits = c.requires.room in
    front_put c.args.name.now c.args.value.now c.args.settings.now.room.now c.put_text.new.room c.put_text-2.new.room c.turn.new.room c.args.settings.now.len
    (c.args.settings.now.len + length c.args.name.now + 1) (c.args.settings.now.len + length c.args.name.now + 1 + length c.args.value.now + 1) refl refl
    (length-take-le c.args.settings.now.len c.args.settings.now.room.now (omega (arith, fits))) c.requires.name c.requires.value c.put_text.ensures.text c.put_text-2.ensures.text c.turn.ensures.turned
