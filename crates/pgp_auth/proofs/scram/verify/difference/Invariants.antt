use Rattle.pgp_auth.proofs.Common.{◌≡◌, ℕ, ◌*◌, ◌<◌, ◌≤◌, get_or}
use Rattle.pgp_auth.proofs.scram.verify.difference.Given as goal

abbrev pub invariant-loop-i : goal.invariant-loop-i
invariant-loop-i l = record {
  same : l.sum ≡ 0 → (k : ℕ) → k < l.i → get_or l.right k 0 ≡ get_or l.left k 0;
  none : ((k : ℕ) → k < l.i → get_or l.right k 0 ≡ get_or l.left k 0) → l.sum ≡ 0;
  few : l.sum ≤ 255 * l.i;
}
