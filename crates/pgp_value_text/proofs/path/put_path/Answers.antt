use Rattle.pgp_value_text.proofs.Common.{refl, ShowsPath, path, path_sound}
use Rattle.pgp_value_text.proofs.Texts.{refused, tells_read}
use Rattle.pgp_value_text.proofs.path.put_path.Goals as goal

pub returns-in-Ok : goal.returns-in-Ok
returns-in-Ok g c = tells_read path path_sound ShowsPath _ c.args.bytes.now c.in-Ok.p _ _ c.put_open_or_closed.result c.in-Ok.ensures.value c.put_open_or_closed.ensures

pub returns-in-Err : goal.returns-in-Err
returns-in-Err g c = (refused path path_sound ShowsPath _ _ c.in-Err.ensures.value, refl)
