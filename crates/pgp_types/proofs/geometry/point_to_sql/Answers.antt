use Rattle.pgp_types.proofs.Common.{◌≡◌, uint64}
use Rattle.pgp_types.proofs.Numbers.{is_uint64}
use Rattle.pgp_types.proofs.geometry.point_to_sql.Goals as goal

pub returns : goal.returns
returns g c =
    let x : c.u64_bytes.result ≡ uint64 c.args.x = is_uint64 _ _ c.u64_bytes.ensures in
    let y : c.u64_bytes-2.result ≡ uint64 c.args.y = is_uint64 _ _ c.u64_bytes-2.ensures in
    rw (← x, ← y) c.append_both.ensures
