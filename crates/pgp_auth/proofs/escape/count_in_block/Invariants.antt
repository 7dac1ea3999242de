use Rattle.pgp_auth.proofs.Common.{◌≡◌, take, count_by, is_doubled}
use Rattle.pgp_auth.proofs.escape.count_in_block.Given as goal

abbrev pub invariant-bytes : goal.invariant-bytes
invariant-bytes l = l.count ≡ count_by (is_doubled l.form.quote l.form.slashes) (take l.i l.block)
