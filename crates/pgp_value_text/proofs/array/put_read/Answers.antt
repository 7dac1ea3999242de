use Rattle.pgp_value_text.proofs.Common.{refl, ShowsArray, array}
use Rattle.pgp_value_text.proofs.Texts.{refused, tells_read}
use Rattle.pgp_value_text.proofs.array.put_read.Goals as goal

pub returns-in-Ok : goal.returns-in-Ok
returns-in-Ok g c = tells_read array c.arrays.ensures.of_array ShowsArray _ c.args.bytes.now c.in-Ok.array _ _ c.put_elements.result c.in-Ok.ensures c.put_elements.ensures

pub returns-in-Err : goal.returns-in-Err
returns-in-Err g c = (refused array c.arrays.ensures.of_array ShowsArray _ _ c.in-Err.ensures, refl)
