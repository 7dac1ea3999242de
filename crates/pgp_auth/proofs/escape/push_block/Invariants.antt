use Rattle.pgp_auth.proofs.Common.{◌≡◌, ◌≤◌, ◌*◌, take, length, doubled}
use Rattle.pgp_auth.proofs.escape.push_block.Given as goal

abbrev pub invariant-bytes : goal.invariant-bytes
invariant-bytes g l =
    (length l.room ≡ 384)
    × (l.len ≤ 2 * l.i)
    × (take l.len l.room ≡ doubled l.form.quote l.form.slashes (take l.i l.block))
