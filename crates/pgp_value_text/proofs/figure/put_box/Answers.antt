use Rattle.pgp_value_text.proofs.Common.{refl, fixed_sound, ShowsBox, box, box_spelling}
use Rattle.pgp_value_text.proofs.Texts.{refused, tells_read}
use Rattle.pgp_value_text.proofs.figure.put_box.Goals as goal

pub returns-in-Ok : goal.returns-in-Ok
returns-in-Ok g c = tells_read box (fixed_sound box_spelling) ShowsBox _ c.args.bytes.now c.in-Ok.b _ _ c.put_corners.result c.in-Ok.ensures (rw (c.upper_right.ensures, c.lower_left.ensures) at c.put_corners.ensures)

pub returns-in-Err : goal.returns-in-Err
returns-in-Err g c = (refused box (fixed_sound box_spelling) ShowsBox _ _ c.in-Err.ensures, refl)
