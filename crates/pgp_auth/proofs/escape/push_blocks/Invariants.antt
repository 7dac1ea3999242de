use Rattle.pgp_auth.proofs.Common.{◌≡◌, ◌++◌, length, doubled}
use Rattle.pgp_auth.proofs.escape.push_blocks.Given as goal

abbrev pub invariant-pieces : goal.invariant-pieces
invariant-pieces g l = l.out.items ++ doubled l.form.quote l.form.slashes l.rest ≡ l.fn.out.items ++ doubled l.form.quote l.form.slashes l.input

abbrev pub decreases-pieces : goal.decreases-pieces
decreases-pieces g l = length l.rest
