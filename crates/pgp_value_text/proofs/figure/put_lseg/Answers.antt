use Rattle.pgp_value_text.proofs.Common.{refl, ShowsSegment, lseg_sound, lseg}
use Rattle.pgp_value_text.proofs.Texts.{refused, tells_read}
use Rattle.pgp_value_text.proofs.figure.put_lseg.Goals as goal

pub returns-in-Ok : goal.returns-in-Ok
returns-in-Ok g c = tells_read lseg lseg_sound ShowsSegment _ c.args.bytes.now c.in-Ok.v _ _ c.put_numbers.result c.in-Ok.ensures c.put_numbers.ensures

pub returns-in-Err : goal.returns-in-Err
returns-in-Err g c = (refused lseg lseg_sound ShowsSegment _ _ c.in-Err.ensures, refl)
