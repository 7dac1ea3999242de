use Rattle.pgp_auth.proofs.Common.{◌≡◌, ◌≤◌, ◌-◌, ℕ, ◌<◌, get_or, length, bit_xor}
use Rattle.pgp_auth.proofs.lanes.xor_into.Given as goal

abbrev pub invariant-lanes : goal.invariant-lanes
invariant-lanes l = record {
  within : l.at ≤ l.len;
  len_is : l.len ≡ length l.other;
  done : (k : ℕ) → k < l.at → get_or l.into k 0 ≡ bit_xor (get_or l.fn.into k 0) (get_or l.other k 0);
  ahead : (k : ℕ) → l.at ≤ k → get_or l.into k 0 ≡ get_or l.fn.into k 0;
}

abbrev pub decreases-lanes : goal.decreases-lanes
decreases-lanes l = l.len - l.at

abbrev pub invariant-rest : goal.invariant-rest
invariant-rest l = record {
  within : l.at ≤ l.len;
  len_is : l.len ≡ length l.other;
  done : (k : ℕ) → k < l.at → get_or l.into k 0 ≡ bit_xor (get_or l.fn.into k 0) (get_or l.other k 0);
  ahead : (k : ℕ) → l.at ≤ k → get_or l.into k 0 ≡ get_or l.fn.into k 0;
}

abbrev pub decreases-rest : goal.decreases-rest
decreases-rest l = l.len - l.at
