use Rattle.pgp_types.proofs.Common.{◌≡◌, ◌++◌, sym, refl, take-append-drop}
use Rattle.pgp_types.proofs.PathLemmas.{point_item, coordinates_read}
use Rattle.pgp_types.proofs.path.point_at.Goals as goal

pub returns-then-bytes-lt16 : goal.returns-then-bytes-lt16
returns-then-bytes-lt16 c = point_item.part.refuses c.args.bytes.now _ (c.if-bytes-lt16.true, refl)

pub returns : goal.returns
returns c =
    let whole : c.args.bytes.now ≡ c.split_at.result.0.now ++ c.split_at.result.1.now = rw (c.split_at.ensures.front, c.split_at.ensures.back) (sym (take-append-drop 16 c.args.bytes.now)) in
    coordinates_read c.x.result c.y.result c.point_of-point.result c.args.bytes.now c.split_at.result.0.now c.split_at.result.1.now c.x.ensures c.y.ensures c.point_of-point.ensures whole
