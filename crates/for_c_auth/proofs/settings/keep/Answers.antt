use Rattle.for_c_auth.proofs.Common.{◌∷◌, ap, length, sym, ◌∙◌, kept_in, without}
use Rattle.for_c_auth.proofs.Kept.{has_room, not_empty, setting, some_given}
use Rattle.for_c_auth.proofs.settings.keep.Goals as goal

pub put_first-requires-clause-room : goal.put_first-requires-clause-room
put_first-requires-clause-room c =
    let some = not_empty c.args.settings.now.room.now (sym c.is_absent.ensures ∙ c.if-is_absent.false) in
    has_room c.args.settings.now (setting c.args.name.now c.args.value.now) c.remove.new.settings.len (length c.remove.new.settings.room.now) some c.requires.room c.remove.ensures.len c.remove.ensures.room

pub returns-clause-kept : goal.returns-clause-kept
returns-clause-kept c =
    let s = setting c.args.name.now c.args.value.now in
    some_given (length c.args.settings.now.room.now) (kept_in c.put_first.new.settings) (kept_in c.args.settings.now) (s ∷ without c.args.name.now (kept_in c.args.settings.now)) (sym c.is_absent.ensures ∙ c.if-is_absent.false)
    (c.put_first.ensures.kept ∙ ap (λ l. s ∷ l) c.remove.ensures.kept)
