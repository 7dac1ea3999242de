use Rattle.pgp_value_text.proofs.Common.{refl, ShowsLine, line_sound, line}
use Rattle.pgp_value_text.proofs.Texts.{refused, tells_read}
use Rattle.pgp_value_text.proofs.figure.put_line.Goals as goal

pub returns-in-Ok : goal.returns-in-Ok
returns-in-Ok g c = tells_read line line_sound ShowsLine _ c.args.bytes.now c.in-Ok.v _ _ c.put_numbers.result c.in-Ok.ensures c.put_numbers.ensures

pub returns-in-Err : goal.returns-in-Err
returns-in-Err g c = (refused line line_sound ShowsLine _ _ c.in-Err.ensures, refl)
