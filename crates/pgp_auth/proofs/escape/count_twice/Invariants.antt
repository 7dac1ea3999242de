use Rattle.pgp_auth.proofs.Common.{◌≡◌, ◌+◌, length, count_by, is_doubled}
use Rattle.pgp_auth.proofs.escape.count_twice.Given as goal

abbrev pub invariant-pieces : goal.invariant-pieces
invariant-pieces l = l.count + count_by (is_doubled l.form.quote l.form.slashes) l.rest ≡ count_by (is_doubled l.form.quote l.form.slashes) l.bytes

abbrev pub decreases-pieces : goal.decreases-pieces
decreases-pieces l = length l.rest
